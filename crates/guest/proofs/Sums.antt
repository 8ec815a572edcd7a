-- The budgets of a list, in the library's word and by cases. Assumes nothing.
use Rattle.std.proofs.Common.{◌≡◌, ◌+◌, ◌*◌, ◌≤◌, List, [], ◌∷◌, length, refl, ◌∙◌, ap, sum_by, arith}
use Rattle.std.proofs.lemmas.List.Sums.{sum_by-cons}
use Rattle.model.specs.declared.timing.Timing.{Timing}
use Rattle.guest.specs.Together.{budgets}

pub budgets_sum : (l : List Timing) → sum_by (λ x. x.budget) l ≡ budgets l
budgets_sum [] = refl
budgets_sum (x ∷ l) = sum_by-cons (λ x. x.budget) x l ∙ ap (λ n. x.budget + n) (budgets_sum l)

pub budgets_most : (l : List Timing) → sum_by (λ x. x.budget) l ≤ 100000 * length l
budgets_most [] = omega arith
budgets_most (x ∷ l) = omega (arith, sum_by-cons (λ x. x.budget) x l, x.fits, x.constrained, x.short, budgets_most l)
