use Rattle.std.proofs.Common.{map, min, filter, None, ap, ◌∙◌, rules, tests}
use Rattle.std.proofs.lemmas.Iterator.{YieldsList-from_map, YieldsList-from_slice}
use Rattle.std.proofs.lemmas.Iterator.Adapters.{YieldsList-from_flat_map}
use Rattle.std.proofs.lemmas.Iterator.Consumers.{YieldsList-at, fold_from_yields_List}
use Rattle.std.specs.List.{reduce}
use Rattle.processor.specs.Few.{held}
use Rattle.store.specs.InPlace.{all_held}
use Rattle.store.specs.Keys.{bad_key}
use Rattle.store.specs.Gathered.{lower_key}
use Rattle.store.specs.Loading.{all_of}
use Rattle.store.proofs.Lowest.{lower_least}
use Rattle.store.proofs.Pieces.{flat_all}
use Rattle.store.proofs.keys.Plan.lowest_bad.Goals as goal

pub returns : goal.returns
returns c =
    let lists = c.as_slice.result.now in
    let bad = bad_key (all_held c.args.self.now) in
    fold_from_yields_List _ (lower_key bad) None c.fold.result c.fold.ensures.ran
    (YieldsList-from_map _ (λ row. row.key)
    (YieldsList-at c.map.ensures.source
    (YieldsList-from_flat_map _ _ _ (λ y. y.now) held _ (λ x u q k. (search (rules, tests), λ j b. YieldsList-from_slice _ (search (rules, tests))))
    (YieldsList-from_slice lists cc) c.flat_map.ensures.closure c.flat_map.ensures.front c.flat_map.ensures.back c.flat_map.ensures.done))
    c.map.ensures.closure (λ x r q k. search (rules, tests)))
    (λ a x b q k. search (rules, tests))
    ∙ (lower_least bad (map (λ row. row.key) _)
    ∙ ap (λ rows. reduce min (filter bad (map (λ row. row.key) rows))) (flat_all lists ∙ ap (λ l. all_of (map held l)) c.as_slice.ensures.items))
