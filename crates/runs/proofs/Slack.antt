-- Two timings without slack ask for more than there is. Assumes nothing.
use Rattle.std.proofs.Common.{◌≡◌, ℕ, ◌+◌, ◌<◌, ◌≤◌, List, [], ◌∷◌, Some, refl, ap, ⊎_elim, arith}
use Rattle.std.specs.List.{slice_get}
use Rattle.std.proofs.lemmas.Bool.{cases_lt}
use Rattle.model.specs.declared.timing.Timing.{Timing}
use Rattle.model.specs.Demand.{exact, demand}
use Rattle.runs.specs.Processor.{DemandFits}
use Rattle.runs.specs.Plan.{sum_at}
use Rattle.runs.proofs.Window.{exact_step}
use Rattle.runs.proofs.Totals.{sum_at_two}

demand_sum : (l : List Timing) (t : ℕ) → demand l t ≡ sum_at (λ i x. exact x t) l
demand_sum [] t = refl
demand_sum (x ∷ l) t = ap (λ n. exact x t + n) (demand_sum l t)

demand_two : (l : List Timing) (i j : ℕ) (x y : Timing) (t : ℕ) → i < j → slice_get l i ≡ Some x → slice_get l j ≡ Some y → exact x t + exact y t ≤ demand l t
demand_two l i j x y t b e e' = rw (demand_sum l t) (sum_at_two (λ i x. exact x t) l i j x y b e e')

pub apart_fails : (l : List Timing) → DemandFits l → (i j : ℕ) (x y : Timing) → slice_get l i ≡ Some x → slice_get l j ≡ Some y →
    x.budget ≡ x.deadline → y.budget ≡ y.deadline → i < j → ⊥
apart_fails l fits i j x y e e' tight tight' b = ⊎_elim
    (λ (p : x.deadline < y.deadline).
    omega (
      arith,
      demand_two l i j x y y.deadline b e e',
      fits y.deadline,
      exact_step x y.deadline (omega arith),
      exact_step y y.deadline (omega arith),
    ))
    (λ (p : y.deadline ≤ x.deadline).
    omega (
      arith,
      demand_two l i j x y x.deadline b e e',
      fits x.deadline,
      exact_step x x.deadline (omega arith),
      exact_step y x.deadline (omega arith),
    ))
    (cases_lt x.deadline y.deadline)
