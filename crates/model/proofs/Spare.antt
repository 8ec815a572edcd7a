-- Where demand never passes the time, the shares pass the scale by less than the number of timings. Assumes nothing.
use Rattle.std.proofs.Common.{◌≡◌, ℕ, suc, ◌+◌, ◌-◌, ◌*◌, ◌/◌, ◌<◌, ◌≤◌, List, [], ◌∷◌, length, negsuc, ◌≤ℤ◌, sym, ap, ◌∙◌, subst, ap₂, le_trans, mul-le-mul_right, mul_assoc, suc-mul, mul_comm, add-mul, lt_of_mul-lt-mul_right, mul-le-mul_left, le-div_iff_mul-le, mul-add, mul_left_comm, arith, le-ltb}
use borrow.Author.Differences.{ints}
use native.Mathlib.Decide.{dec_le}
use Rattle.model.specs.declared.timing.Timing.{Timing}
use Rattle.model.specs.Share.{share, shares, spare}
use Rattle.model.specs.Demand.{exact, demand}
use Rattle.model.proofs.Ceiling.{ceiling_near}

-- the product of the periods
abbrev pub periods : List Timing → ℕ
periods [] = 1
periods (x ∷ l) = x.period * periods l

-- the budgets of all instances in that time
abbrev pub load : List Timing → ℕ
load [] = 0
load (x ∷ l) = x.budget * periods l + x.period * load l

-- at least every deadline
abbrev pub latest : List Timing → ℕ
latest [] = 0
latest (x ∷ l) = x.deadline + latest l

periods_pos : (l : List Timing) → 1 ≤ periods l
periods_pos [] = omega arith
periods_pos (x ∷ l) =
    let ih = periods_pos l in
    let p : x.period * 1 ≤ x.period * periods l = mul-le-mul_left x.period ih in
    omega arith

-- after m periods, and a deadline, m budgets were due
exact_long : (x : Timing) (m t : ℕ) → m * x.period + x.deadline ≤ t → x.budget * m ≤ exact x t
exact_long x m t h =
    let late : x.deadline ≤ t = omega arith in
    let many : m ≤ (t - x.deadline) / x.period = (le-div_iff_mul-le {k = x.period} {x = m} {y = t - x.deadline} (omega arith)).1 (omega arith) in
    let more : m ≤ 1 + (t - x.deadline) / x.period = omega arith in
    rw (le-ltb t x.deadline late) (mul-le-mul_left x.budget more)

demand_long : (l : List Timing) (m d : ℕ) → latest l ≤ d → m * load l ≤ demand l (m * periods l + d)
demand_long [] m d h = omega arith
demand_long (x ∷ l) m d h =
    let p : ℕ = periods l in
    let t : ℕ = m * (x.period * p) + d in
    let here : x.budget * (m * p) ≤ exact x t =
    exact_long x (m * p) t (omega (arith, mul_assoc m x.period p, mul_comm (m * p) x.period, mul_assoc x.period m p, ap (λ k. k * p) (mul_comm x.period m))) in
    let rest : m * x.period * load l ≤ demand l t =
    subst (λ k. m * x.period * load l ≤ demand l (k + d)) (mul_assoc m x.period p) (demand_long l (m * x.period) d (omega arith)) in
    let split : m * (x.budget * p + x.period * load l) ≡ x.budget * (m * p) + m * x.period * load l =
    mul-add m (x.budget * p) (x.period * load l) ∙ ap₂ (λ a b. a + b) (mul_left_comm m x.budget p) (sym (mul_assoc m x.period (load l))) in
    omega arith

-- a load above the time would outgrow any latest deadline
load_fits : (l : List Timing) → ((t : ℕ) → demand l t ≤ t) → load l ≤ periods l
load_fits l sound = elim (dec_le (load l) (periods l)) [ yes h ↦ h | no h ↦ absurd (outgrown (omega arith)) ]
  where
    k : ℕ
    k = latest l + 1

    outgrown : periods l < load l → ⊥
    outgrown over =
        let long : k * load l ≤ k * periods l + latest l = le_trans (demand_long l k (latest l) (omega arith)) (sound (k * periods l + latest l)) in
        let more : k * (periods l + 1) ≤ k * load l = mul-le-mul_left k (omega arith) in
        omega (arith, mul-add k (periods l) 1)

-- one timing more, given the bound for the rest
near_step : (s u b t w p a n : ℕ) → u * t ≤ b * s + (t - 1) → 1 ≤ t → 1 ≤ p → w * p ≤ s * a + n * p
    → (u + w) * (t * p) + 1 ≤ s * (b * p + t * a) + suc n * (t * p)
near_step s u b t w p a n head tp pp rest =
    let front : u * t * p ≤ (b * s + (t - 1)) * p = mul-le-mul_right p head in
    let back : w * p * t ≤ (s * a + n * p) * t = mul-le-mul_right t rest in
    let e₁ : (u + w) * (t * p) ≡ u * t * p + w * p * t =
    add-mul u w (t * p) ∙ ap₂ (λ i j. i + j) (sym (mul_assoc u t p)) (ap (λ k. w * k) (mul_comm t p) ∙ sym (mul_assoc w p t)) in
    let e₂ : (b * s + (t - 1)) * p ≡ s * (b * p) + (t - 1) * p =
    add-mul (b * s) (t - 1) p ∙ ap (λ k. k + (t - 1) * p) (ap (λ k. k * p) (mul_comm b s) ∙ mul_assoc s b p) in
    let e₃ : (s * a + n * p) * t ≡ s * (t * a) + n * (t * p) =
    add-mul (s * a) (n * p) t
    ∙ ap₂ (λ i j. i + j) (mul_assoc s a t ∙ ap (λ k. s * k) (mul_comm a t)) (mul_assoc n p t ∙ ap (λ k. n * k) (mul_comm p t)) in
    let e₄ : (t - 1) * p + 1 * p ≡ t * p = sym (add-mul (t - 1) 1 p) ∙ ap (λ k. k * p) (let e : t - 1 + 1 ≡ t = omega arith in e) in
    omega (arith, mul-add s (b * p) (t * a), suc-mul n (t * p))

shares_most : (s : ℕ) (l : List Timing) → shares s l * periods l ≤ s * load l + length l * periods l
shares_most s [] = omega arith
shares_most s (x ∷ l) =
    omega (
      arith,
      near_step s (share s x) x.budget x.period (shares s l) (periods l) (load l) (length l)
          (ceiling_near (x.budget * s) x.period (omega arith)) (omega arith) (periods_pos l) (shares_most s l),
    )

shares_near : (s : ℕ) (x : Timing) (l : List Timing)
    → shares s (x ∷ l) * periods (x ∷ l) + 1 ≤ s * load (x ∷ l) + length (x ∷ l) * periods (x ∷ l)
shares_near s x l =
    near_step s (share s x) x.budget x.period (shares s l) (periods l) (load l) (length l)
    (ceiling_near (x.budget * s) x.period (omega arith)) (omega arith) (periods_pos l) (shares_most s l)

pub shares_bounded : (s : ℕ) (x : Timing) (l : List Timing) → ((t : ℕ) → demand (x ∷ l) t ≤ t) → shares s (x ∷ l) < s + length (x ∷ l)
shares_bounded s x l sound =
    let fits : load (x ∷ l) ≤ periods (x ∷ l) = load_fits (x ∷ l) sound in
    let p : ℕ = periods (x ∷ l) in
    let scaled : s * load (x ∷ l) ≤ s * p = mul-le-mul_left s fits in
    let below : shares s (x ∷ l) * p < (s + length (x ∷ l)) * p = omega (arith, shares_near s x l, add-mul s (length (x ∷ l)) p) in
    lt_of_mul-lt-mul_right p below

pub spare_bounded : (s : ℕ) (l : List Timing) → length l ≤ 32 → ((t : ℕ) → demand l t ≤ t) → negsuc 30 ≤ℤ spare s l
spare_bounded s [] few sound = omega (arith, ints)
spare_bounded s (x ∷ l) few sound = omega (arith, ints, shares_bounded s x l sound)
