use Rattle.std.proofs.Common.{map, length, sym, ap, ◌∙◌, subst}
use Rattle.std.specs.List.{AllByRecursion}
use Rattle.processor.specs.Few.{held}
use Rattle.store.specs.InPlace.{all_held}
use Rattle.store.specs.Chains.{head_at}
use Rattle.store.specs.Record.{next_at}
use Rattle.store.specs.Records.{Numbered, picked}
use Rattle.store.proofs.Reaches.{chains_numbered}
use Rattle.store.proofs.Unpacks.{entries_read}
use Rattle.store.proofs.unpack.unpack.Goals as goal

pub pick-requires : goal.pick-requires
pick-requires c =
    let i = c.in_ok-image.image in
    let rows = ap length c.as_slice.ensures ∙ c.in_ok-rows.ensures.1 in
    subst (λ r. AllByRecursion (Numbered r) (all_held c.in_ok-chains.chains)) (sym rows)
    (chains_numbered (head_at i.bytes.now) (next_at i.processors i.bytes.now) i.processors i.records (all_held c.in_ok-chains.chains) c.in_ok-chains.ensures.0)

pub returns : goal.returns
returns c = (
  entries_read c.args.processors c.args.bytes.now c.in_ok-image.image c.in_ok-image.ensures (all_held c.in_ok-chains.chains)
      (held c.in_ok-rows.rows) (all_held c.pick.result) c.in_ok-chains.ensures.0 c.in_ok-rows.ensures.0 c.in_ok-rows.ensures.2
      (λ d. c.pick.ensures.along d ∙ ap (λ r. map (picked r d) (all_held c.in_ok-chains.chains)) c.as_slice.ensures),
  c.pick.ensures.count ∙ (c.in_ok-chains.ensures.1 ∙ c.in_ok-image.ensures.2),
)
