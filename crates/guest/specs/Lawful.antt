-- The same-period judge keeps the laws of a judge, at any scale. Assumes nothing.
use Rattle.std.specs.Prelude.{◌≡◌, ℕ, ◌+◌, ◌-◌, ◌*◌, ◌/◌, ◌<◌, ◌≤◌, true, ◌⊎◌, List, [], ◌∷◌, ◌++◌, length, ◌==◌, nat_le, nat_lt, refl}
use Rattle.std.proofs.Common.{ap, sym, subst, inl, inr, le-div_iff_mul-le, div-mul-le_self, mul-le-mul_left, mul-le-mul_right, mul-add, add-mul, mul_comm, mul_assoc, mul_left_comm, arith}
use Rattle.std.proofs.Math.Nat.{le_of_mul-le-mul_left}
use Rattle.std.proofs.lemmas.Bool.{cases_lt, cond-true, cond-false, lt-ltb, le-ltb, and_parts, and_from, or_cases, or_left, or_right, leb-true, le-leb, eqb-true}
use Rattle.model.specs.declared.timing.Timing.{Timing}
use Rattle.model.specs.Share.{density, densities}
use Rattle.model.specs.Demand.{exact, demand}
use Rattle.model.specs.Within.{Within, none, keep, skip, swap, both}
use Rattle.model.proofs.Ceiling.{ceiling_reaches}
use Rattle.model.proofs.Bounds.{density_le}
use Rattle.guest.specs.Together.{budgets, in_step, all_in_step, share_period, together, guest_yes, guest_allowance}

-- exact demand

exact_before : (x : Timing) (t : ℕ) → t < x.deadline → exact x t ≡ 0
exact_before x t h = cond-true (nat_lt t x.deadline) _ _ (lt-ltb t x.deadline h)

exact_after : (x : Timing) (t : ℕ) → x.deadline ≤ t → exact x t ≡ x.budget * (1 + (t - x.deadline) / x.period)
exact_after x t h = cond-false (nat_lt t x.deadline) _ _ (le-ltb t x.deadline h)

-- by density

-- m + 1 budgets take at most the density up to the deadline of the last
density_pays : (s : ℕ) (x : Timing) (m t : ℕ) → m * x.period + x.deadline ≤ t → s * (x.budget * (1 + m)) ≤ density s x * t
density_pays s x m t h =
    let k : ℕ = density s x in
    let paid : (1 + m) * (x.budget * s) ≤ (1 + m) * (k * x.deadline) = mul-le-mul_left (1 + m) (ceiling_reaches (x.budget * s) x.deadline (omega arith)) in
    let wider : m * x.deadline ≤ m * x.period = mul-le-mul_left m x.constrained in
    let reach : k * ((1 + m) * x.deadline) ≤ k * t = mul-le-mul_left k (omega (arith, add-mul 1 m x.deadline)) in
    omega (arith, mul_left_comm (1 + m) k x.deadline, mul_comm s (x.budget * (1 + m)), mul_comm x.budget (1 + m), mul_assoc (1 + m) x.budget s, ap (λ e. e * s) (mul_comm x.budget (1 + m)))

exact_density : (s : ℕ) (x : Timing) (t : ℕ) → s * exact x t ≤ density s x * t
exact_density s x t =
    elim (cases_lt t x.deadline) [
      | inl below ↦ omega (arith, ap (λ e. s * e) (exact_before x t below), mul_comm s 0)
      | inr above ↦
          let q : ℕ = (t - x.deadline) / x.period in
          omega (arith, ap (λ e. s * e) (exact_after x t above), density_pays s x q t (omega (arith, div-mul-le_self (t - x.deadline) x.period)))
    ]

demand_densities : (s : ℕ) (l : List Timing) (t : ℕ) → s * demand l t ≤ densities s l * t
demand_densities s [] t = omega (arith, mul_comm s 0)
demand_densities s (x ∷ l) t =
    omega (arith, mul-add s (exact x t) (demand l t), add-mul (density s x) (densities s l) t, exact_density s x t, demand_densities s l t)

dense_sound : (s : ℕ) (l : List Timing) → 0 < s → densities s l ≤ s → (t : ℕ) → demand l t ≤ t
dense_sound s l pos h t =
    le_of_mul-le-mul_left {m = demand l t} {n = t} {k = s} (omega (arith, demand_densities s l t, mul-le-mul_right t h)) pos

-- together

pub in_step_parts : (p : ℕ) (x : Timing) → in_step p x ≡ true → (x.period ≡ p) × (x.deadline ≡ p)
in_step_parts p x e =
    let parts = and_parts (x.period == p) _ e in
    (eqb-true x.period p parts.0, eqb-true x.deadline p parts.1)

-- one budget for each whole period
exact_in_step : (p : ℕ) (x : Timing) (t : ℕ) → in_step p x ≡ true → exact x t ≤ x.budget * (t / p)
exact_in_step p x t e =
    let same = in_step_parts p x e in
    elim (cases_lt t x.deadline) [
      | inl below ↦ omega (arith, exact_before x t below)
      | inr above ↦
          let q : ℕ = (t - x.deadline) / x.period in
          let whole : q * x.period ≤ t - x.deadline = div-mul-le_self (t - x.deadline) x.period in
          let as-p : q * x.period ≡ q * p = ap (λ n. q * n) same.0 in
          let many : 1 + q ≤ t / p = (le-div_iff_mul-le {k = p} {x = 1 + q} {y = t} (omega (arith, same.0))).1 (omega (arith, add-mul 1 q p, same.1)) in
          omega (arith, exact_after x t above, mul-le-mul_left x.budget many)
    ]

demand_in_step : (p : ℕ) (l : List Timing) (t : ℕ) → all_in_step p l ≡ true → demand l t ≤ budgets l * (t / p)
demand_in_step p [] t e = omega arith
demand_in_step p (x ∷ l) t e =
    let parts = and_parts (in_step p x) _ e in
    omega (arith, add-mul x.budget (budgets l) (t / p), exact_in_step p x t parts.0, demand_in_step p l t parts.1)

share_period_sound : (p : ℕ) (l : List Timing) → share_period p l ≡ true → (t : ℕ) → demand l t ≤ t
share_period_sound p l e t =
    let parts = and_parts (all_in_step p l) _ e in
    let within : budgets l * (t / p) ≤ p * (t / p) = mul-le-mul_right (t / p) (leb-true (budgets l) p parts.1) in
    omega (arith, demand_in_step p l t parts.0, mul_comm p (t / p), div-mul-le_self t p)

together_sound : (l : List Timing) → together l ≡ true → (t : ℕ) → demand l t ≤ t
together_sound [] e t = omega arith
together_sound (x ∷ l) e t = share_period_sound x.period (x ∷ l) e t

-- the parts of a yes

pub yes_parts : (s : ℕ) (l : List Timing) → guest_yes s l ≡ true → (length l ≤ 32) × ((densities s l ≤ s) ⊎ (together l ≡ true))
yes_parts s l e =
    let parts = and_parts (nat_le (length l) 32) _ e in (
      leb-true (length l) 32 parts.0,
      elim (or_cases (nat_le (densities s l) s) (together l) parts.1) [ inl h ↦ inl (leb-true (densities s l) s h) | inr h ↦ inr h ],
    )

pub yes_from : (s : ℕ) (l : List Timing) → length l ≤ 32 → ((densities s l ≤ s) ⊎ (together l ≡ true)) → guest_yes s l ≡ true
yes_from s l few (inl h) = and_from (nat_le (length l) 32) _ (le-leb (length l) 32 few) (or_left _ _ (le-leb (densities s l) s h))
yes_from s l few (inr h) = and_from (nat_le (length l) 32) _ (le-leb (length l) 32 few) (or_right (nat_le (densities s l) s) _ h)

pub guest_sound : (s : ℕ) (l : List Timing) → 0 < s → guest_yes s l ≡ true → (t : ℕ) → demand l t ≤ t
guest_sound s l pos e t =
    elim (yes_parts s l e).1 [ inl h ↦ dense_sound s l pos h t | inr h ↦ together_sound l h t ]

-- fewer timings

-- what is summed over a list falls as elements are left out
sum_falls : (f : Timing → ℕ) (total : List Timing → ℕ) → ((x : Timing) (l : List Timing) → total (x ∷ l) ≡ f x + total l) → {m l : List Timing} → Within m l → total m ≤ total l
sum_falls f total more none = omega arith
sum_falls f total more (keep {x} {m} {l} w) = omega (arith, more x m, more x l, sum_falls f total more w)
sum_falls f total more (skip {x} {m} {l} w) = omega (arith, more x l, sum_falls f total more w)
sum_falls f total more (swap {x} {y} {l}) = omega (arith, more x (y ∷ l), more y l, more y (x ∷ l), more x l)
sum_falls f total more (both v w) = omega (arith, sum_falls f total more v, sum_falls f total more w)

densities_fall : (s : ℕ) {m l : List Timing} → Within m l → densities s m ≤ densities s l
densities_fall s = sum_falls (density s) (densities s) (λ x l. refl)

budgets_fall : {m l : List Timing} → Within m l → budgets m ≤ budgets l
budgets_fall = sum_falls (λ x. x.budget) budgets (λ x l. refl)

length_falls : {m l : List Timing} → Within m l → length m ≤ length l
length_falls = sum_falls (λ x. 1) length (λ x l. omega arith)

-- those that are left still have the period
in_step_fewer : (p : ℕ) {m l : List Timing} → Within m l → all_in_step p l ≡ true → all_in_step p m ≡ true
in_step_fewer p none e = e
in_step_fewer p (keep {x} {m} {l} w) e =
    let parts = and_parts (in_step p x) _ e in
    and_from (in_step p x) _ parts.0 (in_step_fewer p w parts.1)
in_step_fewer p (skip {x} {m} {l} w) e = in_step_fewer p w (and_parts (in_step p x) _ e).1
in_step_fewer p (swap {x} {y} {l}) e =
    let outer = and_parts (in_step p y) _ e in
    let inner = and_parts (in_step p x) _ outer.1 in
    and_from (in_step p x) _ inner.0 (and_from (in_step p y) _ outer.0 inner.1)
in_step_fewer p (both v w) e = in_step_fewer p v (in_step_fewer p w e)

share_period_fewer : (p : ℕ) {m l : List Timing} → Within m l → share_period p l ≡ true → share_period p m ≡ true
share_period_fewer p {m} {l} w e =
    let parts = and_parts (all_in_step p l) _ e in
    and_from (all_in_step p m) _ (in_step_fewer p w parts.0)
    (le-leb (budgets m) p (omega (arith, budgets_fall w, leb-true (budgets l) p parts.1)))

-- a shared period is that of the first timing
first_period : (p : ℕ) (m : List Timing) → share_period p m ≡ true → together m ≡ true
first_period p [] e = refl
first_period p (x ∷ m) e =
    let steps = (and_parts (all_in_step p (x ∷ m)) _ e).0 in
    let here : x.period ≡ p = (in_step_parts p x (and_parts (in_step p x) _ steps).0).0 in
    subst (λ q. share_period q (x ∷ m) ≡ true) (sym here) e

together_fewer : (m l : List Timing) → Within m l → together l ≡ true → together m ≡ true
together_fewer [] l w e = refl
together_fewer (y ∷ m) [] w e = absurd (omega (arith, length_falls w))
together_fewer (y ∷ m) (x ∷ l) w e = first_period x.period (y ∷ m) (share_period_fewer x.period w e)

pub guest_fewer : (s : ℕ) {m l : List Timing} → Within m l → guest_yes s l ≡ true → guest_yes s m ≡ true
guest_fewer s {m} {l} w e =
    let parts = yes_parts s l e in
    yes_from s m (omega (arith, length_falls w))
    (elim parts.1 [ inl h ↦ inl (omega (arith, densities_fall s w)) | inr h ↦ inr (together_fewer m l w h) ])

-- a tail is offered to an empty list alone, and one timing is always within the scale
pub guest_taken : (s : ℕ) (l : List Timing) (x : Timing) (c : ℕ) → x.budget ≡ guest_allowance l x.period c → guest_yes s (l ++ (x ∷ [])) ≡ true
guest_taken s [] x c e = yes_from s (x ∷ []) (omega arith) (inl (omega (arith, density_le s x)))
guest_taken s (y ∷ l) x c e = absurd (omega arith)
