-- Beside any timing the same-period judge takes no tail. Assumes nothing.
use Rattle.std.proofs.Common.{◌≡◌, ℕ, ◌+◌, ◌*◌, ◌<◌, ◌≤◌, true, false, List, [], ◌∷◌, ◌++◌, ap, inl, inr, mul-le-mul_right, mul_comm, arith}
use native.Mathlib.Nat.{le_of_mul-le-mul_left}
use Rattle.std.proofs.lemmas.Bool.{cases_Bool, cases_lt, and_parts, leb-true}
use Rattle.model.specs.declared.timing.Timing.{Timing}
use Rattle.model.specs.Share.{density, densities}
use Rattle.model.proofs.Ceiling.{ceiling_reaches}
use Rattle.guest.specs.Together.{budgets, in_step, all_in_step, share_period, guest_yes}
use Rattle.guest.specs.Lawful.{in_step_parts, yes_parts}

-- a tail takes up the whole scale, and whatever else stands there some of it
tail_density : (s : ℕ) (tail : Timing) → tail.budget ≡ tail.deadline → s ≤ density s tail
tail_density s tail e =
    le_of_mul-le-mul_left {m = s} {n = density s tail} {k = tail.deadline}
    (omega (arith, ceiling_reaches (tail.budget * s) tail.deadline (omega arith), ap (λ c. c * s) e, mul_comm (density s tail) tail.deadline))
    (omega arith)

some_density : (s : ℕ) (x : Timing) → 0 < s → 0 < density s x
some_density s x pos =
    let reached : x.budget * s ≤ density s x * x.deadline = ceiling_reaches (x.budget * s) x.deadline (omega arith) in
    elim (cases_lt 0 (density s x)) [
      | inl h ↦ h
      | inr h ↦ omega (arith, reached, mul-le-mul_right s x.some, mul-le-mul_right x.deadline h)
    ]

densities_push : (s : ℕ) (l : List Timing) (x : Timing) → densities s (l ++ (x ∷ [])) ≡ densities s l + density s x
densities_push s [] x = omega arith
densities_push s (y ∷ l) x = omega (arith, densities_push s l x)

budgets_push : (l : List Timing) (x : Timing) → budgets (l ++ (x ∷ [])) ≡ budgets l + x.budget
budgets_push [] x = omega arith
budgets_push (y ∷ l) x = omega (arith, budgets_push l x)

last_in_step : (p : ℕ) (l : List Timing) (x : Timing) → all_in_step p (l ++ (x ∷ [])) ≡ true → in_step p x ≡ true
last_in_step p [] x e = (and_parts (in_step p x) _ e).0
last_in_step p (y ∷ l) x e = last_in_step p l x (and_parts (in_step p y) _ e).1

never_together : (p : ℕ) (x : Timing) (l : List Timing) (tail : Timing) → tail.budget ≡ tail.deadline → share_period p ((x ∷ l) ++ (tail ∷ [])) ≡ true → ⊥
never_together p x l tail e h =
    let parts = and_parts (all_in_step p ((x ∷ l) ++ (tail ∷ []))) _ h in
    let last = in_step_parts p tail (last_in_step p (x ∷ l) tail parts.0) in
    omega (arith, budgets_push (x ∷ l) tail, leb-true (budgets ((x ∷ l) ++ (tail ∷ []))) p parts.1, last.1)

pub offers_most : (s : ℕ) → 0 < s → (x : Timing) (l : List Timing) (tail : Timing) → tail.budget ≡ tail.deadline → guest_yes s ((x ∷ l) ++ (tail ∷ [])) ≡ false
offers_most s pos x l tail e =
    elim (cases_Bool (guest_yes s ((x ∷ l) ++ (tail ∷ [])))) [
      | inr refused ↦ refused
      | inl taken ↦
          absurd (elim (yes_parts s ((x ∷ l) ++ (tail ∷ [])) taken).1 [
            | inl h ↦ omega (arith, densities_push s (x ∷ l) tail, some_density s x pos, tail_density s tail e)
            | inr h ↦ never_together x.period x l tail e h
          ])
    ]
