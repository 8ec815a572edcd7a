use Rattle.std.proofs.Common.{◌≤◌, map, length, sym, ap, ◌∙◌, arith, rules, tests}
use Rattle.std.proofs.lemmas.Iterator.{YieldsList-from_map, YieldsList-from_slice}
use Rattle.std.proofs.lemmas.Iterator.Consumers.{fits_by_from_yields_list, sum_by_from_yields_List}
use Rattle.processor.specs.Few.{held}
use Rattle.store.specs.Keys.{firsts, keys}
use Rattle.store.proofs.Pieces.{keys_sum, keys_le}
use Rattle.store.proofs.keys.Plan.count_keys.Goals as goal

pub sum-requires-clause-fits : goal.sum-requires-clause-fits
sum-requires-clause-fits c =
    let lists = c.as_slice.result.now in
    fits_by_from_yields_list (λ l. firsts (held l)) lists c.map.result _
    (YieldsList-from_map _ _ (YieldsList-from_slice lists cc) c.map.ensures.closure (λ x r q k. search (rules, tests)))
    (let few : length lists ≤ 8 = omega arith in omega (arith, keys_sum lists, keys_le lists))

pub returns : goal.returns
returns c =
    let lists = c.as_slice.result.now in
    sum_by_from_yields_List (λ l. firsts (held l)) lists c.map.result c.sum.result c.sum.ensures.ran
    (YieldsList-from_map _ _ (YieldsList-from_slice lists cc) c.map.ensures.closure (λ x r q k. search (rules, tests)))
    ∙ (sym (keys_sum lists) ∙ ap (λ l. keys (map held l)) c.as_slice.ensures.items)
