use Rattle.std.proofs.Common.{◌≡◌, ◌++◌, drop}
use Rattle.store.specs.Keys.{of_key}
use Rattle.store.specs.Gathered.{as_list}
use Rattle.store.proofs.keys.piece_of.Given as goal

abbrev pub invariant-loop-row : goal.invariant-loop-row
invariant-loop-row l = as_list l.found ++ of_key l.key (drop l.row-index l.rows) ≡ of_key l.key l.rows
