use Rattle.std.proofs.Common.{rules, tests, length, ap, ◌∙◌, arith}
use Rattle.std.proofs.lemmas.Iterator.{YieldsList-from_slice, YieldsList-from_map}
use Rattle.std.proofs.lemmas.List.{length-map, length-take}
use Rattle.model.specs.Row.{timings}
use Rattle.processor.specs.Few.{held}
use Rattle.processor.proofs.Collecting.{collected_all}
use Rattle.store.proofs.judging.says_yes.Goals as goal

pub returns : goal.returns
returns g c =
    let list = c.args.rows.now in let rows = c.as_slice.result.now in
    c.judge.ensures ∙ ap (g.J.Judge.accepts c.args.judge.now) (c.as_slice-2.ensures
    ∙ collected_all 33 (held c.collected-list.result) c.collected-list.ensures
    (YieldsList-from_map _ (λ r. r.timing) (YieldsList-from_slice rows cc) c.map-timings.ensures.closure (λ x r q k. search (rules, tests)))
    (omega (arith, length-map rows (λ r. r.timing), ap length c.as_slice.ensures, length-take list.len list.items, list.within))
    ∙ ap timings c.as_slice.ensures)
