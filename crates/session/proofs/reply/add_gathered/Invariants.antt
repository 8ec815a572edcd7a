use Rattle.std.proofs.Common.{◌≡◌, ◌+◌, ◌*◌, ◌≤◌, ◌++◌, length, map}
use Rattle.std.specs.List.{flat_map}
use Rattle.lines.specs.Replies.{text_of}
use Rattle.session.proofs.Gathering.{seen, line_at}
use Rattle.session.proofs.reply.add_gathered.Given as goal

abbrev pub invariant-loop-i : goal.invariant-loop-i
invariant-loop-i g l =
    (text_of l.reply ≡ text_of l.initial.reply ++ flat_map line_at (map seen l.yielded))
    × (length (text_of l.reply) ≤ length (text_of l.initial.reply) + 30 * length l.yielded)
