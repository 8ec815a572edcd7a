use Rattle.std.proofs.Common.{◌≡◌, length, arith, rules, tests}
use Rattle.std.proofs.lemmas.Iterator.{cases_from_all, YieldsList-from_range}
use Rattle.store.specs.Keys.{times}
use Rattle.store.proofs.Pieces.{once_is}
use Rattle.store.proofs.keys.parts_once.Goals as goal

pub returns : goal.returns
returns c =
    let rows = c.args.rows.now in
    once_is (length rows) rows c.all.result
    (cases_from_all _ _ _ (λ k. times k rows ≡ 1) (λ k. times k rows ≡ 1 → ⊥) c.all.ensures.ran
    (YieldsList-from_range 0 (length rows) (length rows) (search rules) (omega arith)) (λ x q k. search (rules, tests)) (λ x q k. search (rules, tests)))
