-- Approximate demand of one timing and of a list, at any scale. Assumes nothing.
use Rattle.std.specs.Prelude.{◌≡◌, ℕ, suc, ◌+◌, ◌-◌, ◌*◌, ◌/◌, ◌<◌, ◌≤◌, ◌⊎◌, List, [], ◌∷◌, ◌++◌, length, ◌≢◌, nat_lt, refl}
use Rattle.std.proofs.Common.{sym, ◌∙◌, ap, inl, inr, le-div_iff_mul-le, div-lt_iff_lt-mul, div-mul-le_self, mul-le-mul_left, mul-le-mul_right, mul-add, add-mul, mul_comm, mul_assoc, mul_left_comm, arith}
use Rattle.std.proofs.Math.Nat.{mul-add-div_right}
use Rattle.std.proofs.lemmas.Bool.{cases_lt, cond-true, cond-false, lt-ltb, le-ltb}
use Rattle.model.specs.declared.timing.Timing.{Timing}
use Rattle.model.specs.Share.{share, density, shares, densities}
use Rattle.model.specs.Demand.{exact, demand}
use Rattle.model.specs.Within.{Within, none, keep, skip, swap, both}
use Rattle.model.proofs.Bounds.{density_le}
use Rattle.model.proofs.Ceiling.{ceiling_reaches, ceiling_near, ceiling_least}
use Rattle.judges.specs.Approximate.{point, approximate, approximates}

-- quotients

pub div_mono : (a b p : ℕ) → 0 < p → a ≤ b → a / p ≤ b / p
div_mono a b p pos h = (le-div_iff_mul-le {k = p} {x = a / p} {y = b} pos).1 (omega (arith, div-mul-le_self a p))

-- from one number to the next a quotient stays, or the number is its multiple
pub div_next : (a p : ℕ) → 0 < p → (suc a / p ≡ a / p) ⊎ (suc a ≡ suc a / p * p)
div_next a p pos =
    elim (cases_lt a (suc a / p * p)) [
      | inl h ↦ inr (omega (arith, div-mul-le_self (suc a) p))
      | inr h ↦
          let up : suc a / p ≤ a / p = (le-div_iff_mul-le {k = p} {x = suc a / p} {y = a} pos).1 h in
          inl (omega (arith, div_mono a (suc a) p pos (omega arith)))
    ]

-- share and density

pub share_reaches : (s : ℕ) (x : Timing) → x.budget * s ≤ share s x * x.period
share_reaches s x = ceiling_reaches (x.budget * s) x.period (omega arith)

pub share_near : (s : ℕ) (x : Timing) → share s x * x.period ≤ x.budget * s + (x.period - 1)
share_near s x = ceiling_near (x.budget * s) x.period (omega arith)

pub share_least : (s : ℕ) (x : Timing) (k : ℕ) → x.budget * s ≤ k * x.period → share s x ≤ k
share_least s x k h = ceiling_least (x.budget * s) x.period k (omega arith) h

pub density_reaches : (s : ℕ) (x : Timing) → x.budget * s ≤ density s x * x.deadline
density_reaches s x = ceiling_reaches (x.budget * s) x.deadline (omega arith)

pub share_density : (s : ℕ) (x : Timing) → share s x ≤ density s x
share_density s x =
    let wider : density s x * x.deadline ≤ density s x * x.period = mul-le-mul_left (density s x) x.constrained in
    share_least s x (density s x) (omega (arith, density_reaches s x))

-- exact demand

pub exact_before : (x : Timing) (t : ℕ) → t < x.deadline → exact x t ≡ 0
exact_before x t h = cond-true (nat_lt t x.deadline) _ _ (lt-ltb t x.deadline h)

pub exact_after : (x : Timing) (t : ℕ) → x.deadline ≤ t → exact x t ≡ x.budget * (1 + (t - x.deadline) / x.period)
exact_after x t h = cond-false (nat_lt t x.deadline) _ _ (le-ltb t x.deadline h)

pub exact_mono : (x : Timing) (t u : ℕ) → t ≤ u → exact x t ≤ exact x u
exact_mono x t u le =
    elim (cases_lt t x.deadline) [
      | inl h ↦ omega (arith, exact_before x t h)
      | inr h ↦
          let more : (t - x.deadline) / x.period ≤ (u - x.deadline) / x.period = div_mono (t - x.deadline) (u - x.deadline) x.period (omega arith) (omega arith) in
          let grown : x.budget * (1 + (t - x.deadline) / x.period) ≤ x.budget * (1 + (u - x.deadline) / x.period) = mul-le-mul_left x.budget (omega arith) in
          omega (arith, exact_after x t h, exact_after x u (omega arith))
    ]

-- it rises only at a check-point
pub exact_next : (x : Timing) (t : ℕ) → (exact x (suc t) ≡ exact x t) ⊎ ((k : ℕ) × (suc t ≡ point x k))
exact_next x t =
    elim (cases_lt (suc t) x.deadline) [
      | inl h ↦ inl (exact_before x (suc t) h ∙ sym (exact_before x t (omega arith)))
      | inr h ↦
          elim (cases_lt t x.deadline) [
            | inl below ↦ inr (0, omega (arith, mul_comm 0 x.period))
            | inr above ↦
                let shift : suc t - x.deadline ≡ suc (t - x.deadline) = omega arith in
                elim (div_next (t - x.deadline) x.period (omega arith)) [
                  | inl same ↦
                      inl (exact_after x (suc t) h ∙ ap (λ n. x.budget * (1 + n)) (ap (λ n. n / x.period) shift ∙ same) ∙ sym (exact_after x t above))
                  | inr whole ↦ inr (suc (t - x.deadline) / x.period, omega arith)
                ]
          ]
    ]

-- approximate demand, by where it is exact and where it is a line

pub approximate_steps : (s n : ℕ) (x : Timing) (t : ℕ) → t < point x n → approximate s n x t ≡ s * exact x t
approximate_steps s n x t h = cond-true (nat_lt t (point x n)) _ _ (lt-ltb t (point x n) h)

pub approximate_line : (s n : ℕ) (x : Timing) (t : ℕ) → point x n ≤ t → approximate s n x t ≡ s * ((n + 1) * x.budget) + share s x * (t - point x n)
approximate_line s n x t h = cond-false (nat_lt t (point x n)) _ _ (le-ltb t (point x n) h)

pub approximate_before : (s n : ℕ) (x : Timing) (t : ℕ) → t < x.deadline → approximate s n x t ≡ 0
approximate_before s n x t h =
    approximate_steps s n x t (omega arith) ∙ ap (λ e. s * e) (exact_before x t h) ∙ omega (arith, mul_comm s 0)

-- before check-point n exact demand has at most n instances
exact_below : (n : ℕ) (x : Timing) (t : ℕ) → t < point x n → exact x t ≤ (n + 1) * x.budget
exact_below n x t h =
    elim (cases_lt t x.deadline) [
      | inl below ↦ omega (arith, exact_before x t below)
      | inr above ↦
          let few : (t - x.deadline) / x.period < n = (div-lt_iff_lt-mul {k = x.period} {x = t - x.deadline} {y = n} (omega arith)).1 (omega arith) in
          let grown : (1 + (t - x.deadline) / x.period) * x.budget ≤ (n + 1) * x.budget = mul-le-mul_right x.budget (omega arith) in
          omega (arith, exact_after x t above, mul_comm x.budget (1 + (t - x.deadline) / x.period))
    ]

pub approximate_mono : (s n : ℕ) (x : Timing) (t u : ℕ) → t ≤ u → approximate s n x t ≤ approximate s n x u
approximate_mono s n x t u le =
    elim (cases_lt t (point x n)) [
      | inl low ↦
          elim (cases_lt u (point x n)) [
            | inl both-low ↦
                let grown : s * exact x t ≤ s * exact x u = mul-le-mul_left s (exact_mono x t u le) in
                omega (arith, approximate_steps s n x t low, approximate_steps s n x u both-low)
            | inr high ↦
                let grown : s * exact x t ≤ s * ((n + 1) * x.budget) = mul-le-mul_left s (exact_below n x t low) in
                omega (arith, approximate_steps s n x t low, approximate_line s n x u high)
          ]
      | inr high ↦
          let grown : share s x * (t - point x n) ≤ share s x * (u - point x n) = mul-le-mul_left (share s x) (omega arith) in
          omega (arith, approximate_line s n x t high, approximate_line s n x u (omega arith))
    ]

-- after check-point n, in instances
exact_line : (n : ℕ) (x : Timing) (y : ℕ) → exact x (point x n + y) ≡ x.budget * (n + 1) + x.budget * (y / x.period)
exact_line n x y =
    let split : (point x n + y - x.deadline) / x.period ≡ n + y / x.period =
    ap (λ e. e / x.period) (omega arith) ∙ mul-add-div_right {m = x.period} (omega arith) n y in
    exact_after x (point x n + y) (omega arith) ∙ ap (λ q. x.budget * (1 + q)) split
    ∙ omega (arith, mul-add x.budget 1 (n + y / x.period), mul-add x.budget n (y / x.period), mul-add x.budget n 1)

-- in the line the share pays for every whole period
line_pays : (s : ℕ) (x : Timing) (y : ℕ) → s * (x.budget * (y / x.period)) ≤ share s x * y
line_pays s x y =
    let q : ℕ = y / x.period in
    let paid : x.budget * s * q ≤ share s x * x.period * q = mul-le-mul_right q (share_reaches s x) in
    let whole : share s x * (x.period * q) ≤ share s x * y = mul-le-mul_left (share s x) (omega (arith, div-mul-le_self y x.period, mul_comm x.period q)) in
    omega (arith, mul_comm x.budget s, mul_assoc s x.budget q, ap (λ e. e * q) (mul_comm x.budget s), mul_assoc (share s x) x.period q)

pub exact_approximate : (s n : ℕ) (x : Timing) (t : ℕ) → s * exact x t ≤ approximate s n x t
exact_approximate s n x t =
    elim (cases_lt t (point x n)) [
      | inl low ↦ omega (arith, approximate_steps s n x t low)
      | inr high ↦
          let y : ℕ = t - point x n in
          let there : exact x t ≡ x.budget * (n + 1) + x.budget * (y / x.period) =
          ap (exact x) (omega arith) ∙ exact_line n x y in
          omega (
            arith,
            ap (λ e. s * e) there,
            mul-add s (x.budget * (n + 1)) (x.budget * (y / x.period)),
            ap (λ e. s * e) (mul_comm x.budget (n + 1)),
            line_pays s x y,
            approximate_line s n x t high,
          )
    ]

-- a check-point that lies below another has the smaller number
point_below : (x : Timing) (k n : ℕ) → point x k < point x n → k < n
point_below x k n h =
    elim (cases_lt k n) [
      | inl less ↦ less
      | inr more ↦ omega (arith, mul-le-mul_right x.period more)
    ]

-- between check-points one tick adds at most the share
pub approximate_next : (s n : ℕ) (x : Timing) (t : ℕ) → ((k : ℕ) → k ≤ n → suc t ≢ point x k) → approximate s n x (suc t) ≤ approximate s n x t + share s x
approximate_next s n x t apart =
    elim (cases_lt (suc t) (point x n)) [
      | inl low ↦
          elim (exact_next x t) [
            | inl same ↦ omega (arith, approximate_steps s n x (suc t) low, approximate_steps s n x t (omega arith), ap (λ e. s * e) same)
            | inr rise ↦ absurd (apart rise.0 (omega (arith, point_below x rise.0 n (omega (arith, rise.1)))) rise.1)
          ]
      | inr high ↦
          elim (cases_lt t (point x n)) [
            | inl below ↦ absurd (apart n (omega arith) (omega arith))
            | inr above ↦
                omega (
                  arith,
                  approximate_line s n x (suc t) high,
                  approximate_line s n x t above,
                  ap (λ d. share s x * d) (line_shift t (point x n) above),
                  mul-add (share s x) (t - point x n) 1,
                )
          ]
    ]
  where
    line_shift : (t p : ℕ) → p ≤ t → suc t - p ≡ (t - p) + 1
    line_shift t p h = omega arith

-- n + 1 instances by check-point n are within the density
density_pays : (s : ℕ) (x : Timing) (m : ℕ) → s * ((m + 1) * x.budget) ≤ density s x * point x m
density_pays s x m =
    let k : ℕ = density s x in
    let paid : (m + 1) * (x.budget * s) ≤ (m + 1) * (k * x.deadline) = mul-le-mul_left (m + 1) (density_reaches s x) in
    let wider : m * x.deadline ≤ m * x.period = mul-le-mul_left m x.constrained in
    let reach : k * ((m + 1) * x.deadline) ≤ k * point x m = mul-le-mul_left k (omega (arith, add-mul m 1 x.deadline)) in
    omega (arith, mul_left_comm (m + 1) k x.deadline, mul_comm s ((m + 1) * x.budget), mul_assoc (m + 1) x.budget s)

pub approximate_density : (s n : ℕ) (x : Timing) (t : ℕ) → approximate s n x t ≤ density s x * t
approximate_density s n x t =
    elim (cases_lt t x.deadline) [
      | inl below ↦ omega (arith, approximate_before s n x t below)
      | inr above ↦
          elim (cases_lt t (point x n)) [
            | inl low ↦
                let q : ℕ = (t - x.deadline) / x.period in
                let reach : density s x * point x q ≤ density s x * t =
                mul-le-mul_left (density s x) (omega (arith, div-mul-le_self (t - x.deadline) x.period)) in
                omega (arith, approximate_steps s n x t low, ap (λ e. s * e) (exact_after x t above ∙ mul_comm x.budget (1 + q) ∙ ap (λ m. m * x.budget) (one_first q)), density_pays s x q)
            | inr high ↦
                let y : ℕ = t - point x n in
                let slope : share s x * y ≤ density s x * y = mul-le-mul_right y (share_density s x) in
                let whole : density s x * t ≡ density s x * point x n + density s x * y =
                ap (λ e. density s x * e) (omega arith) ∙ mul-add (density s x) (point x n) y in
                omega (arith, approximate_line s n x t high, density_pays s x n)
          ]
    ]
  where
    one_first : (q : ℕ) → 1 + q ≡ q + 1
    one_first q = omega arith

-- sums over a list

-- what is summed over a list falls as elements are left out
pub sum_falls : (f : Timing → ℕ) (total : List Timing → ℕ) → ((x : Timing) (l : List Timing) → total (x ∷ l) ≡ f x + total l) → {m l : List Timing} → Within m l → total m ≤ total l
sum_falls f total more none = omega arith
sum_falls f total more (keep {x} {m} {l} w) = omega (arith, more x m, more x l, sum_falls f total more w)
sum_falls f total more (skip {x} {m} {l} w) = omega (arith, more x l, sum_falls f total more w)
sum_falls f total more (swap {x} {y} {l}) = omega (arith, more x (y ∷ l), more y l, more y (x ∷ l), more x l)
sum_falls f total more (both v w) = omega (arith, sum_falls f total more v, sum_falls f total more w)

pub shares_fall : (s : ℕ) {m l : List Timing} → Within m l → shares s m ≤ shares s l
shares_fall s = sum_falls (share s) (shares s) (λ x l. refl)

pub densities_fall : (s : ℕ) {m l : List Timing} → Within m l → densities s m ≤ densities s l
densities_fall s = sum_falls (density s) (densities s) (λ x l. refl)

pub approximates_fall : (s n t : ℕ) {m l : List Timing} → Within m l → approximates s n m t ≤ approximates s n l t
approximates_fall s n t = sum_falls (λ x. approximate s n x t) (λ l. approximates s n l t) (λ x l. refl)

pub length_falls : {m l : List Timing} → Within m l → length m ≤ length l
length_falls = sum_falls (λ x. 1) length (λ x l. omega arith)

pub shares_append : (s : ℕ) (l m : List Timing) → shares s (l ++ m) ≡ shares s l + shares s m
shares_append s [] m = omega arith
shares_append s (x ∷ l) m = omega (arith, shares_append s l m)

pub approximates_append : (s n : ℕ) (l m : List Timing) (t : ℕ) → approximates s n (l ++ m) t ≡ approximates s n l t + approximates s n m t
approximates_append s n [] m t = omega arith
approximates_append s n (x ∷ l) m t = omega (arith, approximates_append s n l m t)

pub approximates_mono : (s n : ℕ) (l : List Timing) (t u : ℕ) → t ≤ u → approximates s n l t ≤ approximates s n l u
approximates_mono s n [] t u le = omega arith
approximates_mono s n (x ∷ l) t u le = omega (arith, approximate_mono s n x t u le, approximates_mono s n l t u le)

pub demand_approximates : (s n : ℕ) (l : List Timing) (t : ℕ) → s * demand l t ≤ approximates s n l t
demand_approximates s n [] t = omega (arith, mul_comm s 0)
demand_approximates s n (x ∷ l) t =
    omega (arith, mul-add s (exact x t) (demand l t), exact_approximate s n x t, demand_approximates s n l t)

pub shares_densities : (s : ℕ) (l : List Timing) → shares s l ≤ densities s l
shares_densities s [] = omega arith
shares_densities s (x ∷ l) = omega (arith, share_density s x, shares_densities s l)

pub approximates_densities : (s n : ℕ) (l : List Timing) (t : ℕ) → approximates s n l t ≤ densities s l * t
approximates_densities s n [] t = omega arith
approximates_densities s n (x ∷ l) t =
    omega (arith, add-mul (density s x) (densities s l) t, approximate_density s n x t, approximates_densities s n l t)

-- sizes

pub approximate_within : (s n : ℕ) (x : Timing) (t : ℕ) → approximate s n x t ≤ s * t
approximate_within s n x t = omega (arith, approximate_density s n x t, mul-le-mul_right t (density_le s x))
