use Rattle.std.proofs.Common.{◌≡◌, ◌≤◌, [], map, replicate, vec_items, vec_len, vec_capacity}
use Rattle.processor.specs.Rows.{rows_of}
use Rattle.board.proofs.board.Board.new.Given as goal

abbrev pub invariant-loop : goal.invariant-loop
invariant-loop g l =
    (8 ≤ vec_capacity l.made) × (vec_len l.made ≡ l.counter)
    × (map rows_of (vec_items l.made) ≡ replicate l.counter [])
