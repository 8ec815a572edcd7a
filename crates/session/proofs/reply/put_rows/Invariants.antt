use Rattle.std.proofs.Common.{◌+◌, ◌*◌, ◌≤◌, take}
use Rattle.lines.specs.Replies.{Wrote}
use Rattle.session.specs.Rows.{rows_text}
use Rattle.session.proofs.reply.put_rows.Given as goal

abbrev pub invariant-loop-row : goal.invariant-loop-row
invariant-loop-row l =
    Wrote l.initial.out l.at (rows_text (take l.row-index l.rows)) l.out l.end × (l.end ≤ l.at + 30 * l.row-index)
