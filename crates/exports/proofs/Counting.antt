-- One more step counted. Assumes nothing.
use Rattle.std.proofs.Common.{◌≡◌, ℕ, ◌+◌, ◌<◌, ◌≤◌, List, length, get_or, drop, ap, arith}
use Rattle.std.proofs.lemmas.List.{at_drop_more, at_drop_all}
use Rattle.model.specs.declared.row.Row.{Row}
use Rattle.exports.specs.Boards.{count_over}

module _ {X : Type 0} (step : List (List Row) → X → ℕ × List (List Row)) (all : List X) (i : ℕ) (count total : ℕ) where
  pub count_more :
      (none : X) → i < length all → (plan next : List (List Row)) (r : ℕ) → count + count_over step plan (drop i all) ≡ total →
      r ≡ (step plan (get_or all i none)).0 → next ≡ (step plan (get_or all i none)).1 →
      count + r + count_over step next (drop (i + 1) all) ≡ total
  count_more none h plan next r so_far one left =
      let here : count_over step plan (drop i all)
      ≡ (step plan (get_or all i none)).0 + count_over step (step plan (get_or all i none)).1 (drop (i + 1) all)
      = at_drop_more (count_over step plan) all i none h in
      let rest : count_over step next (drop (i + 1) all) ≡ count_over step (step plan (get_or all i none)).1 (drop (i + 1) all)
      = ap (λ p. count_over step p (drop (i + 1) all)) left in
      omega (arith, so_far, here, rest, one)

  pub count_all : length all ≤ i → (plan : List (List Row)) → count + count_over step plan (drop i all) ≡ total → count ≡ total
  count_all h plan so_far =
      let none : count_over step plan (drop i all) ≡ 0 = at_drop_all (count_over step plan) all i h in
      omega (arith, so_far, none)
