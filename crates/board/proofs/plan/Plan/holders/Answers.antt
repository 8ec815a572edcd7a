use Rattle.std.proofs.Common.{rules, tests, map, ap, sym, ◌∙◌, arith}
use Rattle.std.proofs.lemmas.Iterator.{YieldsList-from_slice, YieldsList-from_map}
use Rattle.std.proofs.lemmas.List.{length-map}
use Rattle.std.proofs.lemmas.Simd.{map-map}
use Rattle.processor.specs.Few.{held}
use Rattle.processor.specs.Keys.{has_key}
use Rattle.processor.specs.Rows.{rows_of}
use Rattle.processor.proofs.Collecting.{collected_all}
use Rattle.board.proofs.plan.Plan.holders.Goals as goal

pub returns : goal.returns
returns c =
    let ps = c.deref.result.now in
    collected_all 8 (held c.collected.result) c.collected.ensures
    (YieldsList-from_map _ (λ p. has_key c.args.key (rows_of p)) (YieldsList-from_slice ps cc) c.map.ensures.closure (λ x r q k. search (rules, tests)))
    (omega (arith, length-map ps (λ p. has_key c.args.key (rows_of p))))
    ∙ sym (map-map (has_key c.args.key) rows_of ps) ∙ ap (λ l. map (has_key c.args.key) (map rows_of l)) c.deref.ensures.value
