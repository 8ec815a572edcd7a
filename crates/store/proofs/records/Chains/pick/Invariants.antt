use Rattle.std.proofs.Common.{◌≡◌, map, take}
use Rattle.model.specs.declared.row.Row.{Row}
use Rattle.processor.specs.Few.{held}
use Rattle.store.specs.InPlace.{all_held}
use Rattle.store.specs.Records.{picked}
use Rattle.store.proofs.records.Chains.pick.Given as goal

abbrev pub invariant-loop-chain : goal.invariant-loop-chain
invariant-loop-chain l =
    (l.picked.count ≡ l.chain-index)
    × ((d : Row) → all_held l.picked ≡ map (picked l.rows d) (map held (take l.chain-index l.chain-items)))
