use Rattle.std.proofs.Common.{◌≡◌, ◌+◌, ◌*◌, ◌≤◌, ◌++◌, length, take}
use Rattle.lines.specs.Replies.{text_of}
use Rattle.session.specs.Rows.{rows_text}
use Rattle.session.proofs.reply.add_rows.Given as goal

abbrev pub invariant-loop-placed : goal.invariant-loop-placed
invariant-loop-placed g l =
    (text_of l.reply ≡ text_of l.initial.reply ++ rows_text (take l.placed-index l.rows))
    × (length (text_of l.reply) ≤ length (text_of l.initial.reply) + 30 * l.placed-index)
