use Rattle.std.proofs.Common.{map, ap, ◌∙◌, arith}
use Rattle.std.proofs.lemmas.List.{take_all}
use Rattle.processor.specs.Few.{held}
use Rattle.store.specs.InPlace.{all_held}
use Rattle.store.specs.Records.{picked}
use Rattle.store.proofs.ByNumber.{picks_more}
use Rattle.store.proofs.records.Chains.pick.Goals as goal

pub loop-chain-preserved : goal.loop-chain-preserved
loop-chain-preserved c = (
  omega arith,
  picks_more c.args.rows.now c.as_slice-chain-items.result.now c.loop-chain.chain-index c.chain-item.result (all_held c.loop-chain.picked) (all_held c.push.new.self)
      (held c.pick.result) (omega arith) c.chain-item.is
      (λ d. c.pick.ensures d ∙ ap (picked c.args.rows.now d) c.as_slice.ensures) c.push.ensures.after c.loop-chain.invariant.1,
)

pub returns-clause-along : goal.returns-clause-along
returns-clause-along c =
    λ d.
    c.loop-chain.invariant.1 d
    ∙ ap (λ l. map (picked c.args.rows.now d) (map held l)) (take_all c.loop-chain.chain-index c.as_slice-chain-items.result.now (omega arith) ∙ c.as_slice-chain-items.ensures.items)
