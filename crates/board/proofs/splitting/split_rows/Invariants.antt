use Rattle.std.proofs.Common.{◌≡◌, ◌+◌, ◌++◌, reverse, length, drop}
use Rattle.processor.specs.Few.{held}
use Rattle.board.specs.Split.{tails}
use Rattle.board.proofs.splitting.split_rows.Given as goal

abbrev pub invariant-loop-i : goal.invariant-loop-i
invariant-loop-i l =
    (held l.placed ++ tails l.key (l.i + 1) (drop l.i (reverse l.cuts)) ≡ held l.initial.placed ++ tails l.key 1 (reverse l.cuts))
    × (length (held l.placed) ≡ l.i + 1)
