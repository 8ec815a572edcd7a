use Rattle.std.proofs.Common.{map, length, sym, ap, ◌∙◌, arith, rules, tests}
use Rattle.std.proofs.lemmas.Iterator.{YieldsList-from_map, YieldsList-from_slice}
use Rattle.std.proofs.lemmas.Iterator.Consumers.{fits_by_from_yields_list, sum_by_from_yields_List}
use Rattle.processor.specs.Rows.{rows_of}
use Rattle.store.specs.Image.{row_count}
use Rattle.store.proofs.Images.{row_count_sum, row_count_le}
use Rattle.store.proofs.save.record_count.Goals as goal

pub sum-requires-clause-fits : goal.sum-requires-clause-fits
sum-requires-clause-fits g c =
    let ps = c.deref.result.now in
    fits_by_from_yields_list (λ p. length (rows_of p)) ps c.map.result _
    (YieldsList-from_map _ _ (YieldsList-from_slice ps cc) c.map.ensures.closure (λ x r q k. search (rules, tests)))
    (omega (arith, row_count_sum ps, row_count_le ps))

pub returns : goal.returns
returns g c =
    let ps = c.deref.result.now in
    sum_by_from_yields_List (λ p. length (rows_of p)) ps c.map.result c.sum.result c.sum.ensures.ran
    (YieldsList-from_map _ _ (YieldsList-from_slice ps cc) c.map.ensures.closure (λ x r q k. search (rules, tests)))
    ∙ (sym (row_count_sum ps) ∙ ap (λ l. row_count (map rows_of l)) c.deref.ensures.value)
