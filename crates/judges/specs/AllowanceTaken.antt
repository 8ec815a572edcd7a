-- A list with a tail as long as its allowance gets the demand judge's yes. Assumes nothing.
use Rattle.std.specs.Prelude.{◌≡◌, ℕ, zero, suc, ◌+◌, ◌-◌, ◌*◌, ◌/◌, ◌<◌, ◌≤◌, min, true, ◌&&◌, List, [], ◌∷◌, ◌++◌, length, nat_le, refl}
use Rattle.std.proofs.Common.{ap, ◌∙◌, inl, inr, zero-le, le_refl, le_trans, mul-add, mul-le-mul_left, mul-le-mul_right, mul-pos, le_of_mul-le-mul_right, le-div_iff_mul-le, div-lt_iff_lt-mul, mul-div_cancel, mul-lt-mul_of_pos_right, arith, length-append}
use Rattle.std.proofs.Math.Nat.{sub_self}
use Rattle.std.proofs.lemmas.Bool.{and_from, cond-true, cond-false, le-leb, lt-leb, cases_lt}
use Rattle.model.specs.declared.timing.Timing.{Timing}
use Rattle.model.specs.Share.{share, shares}
use Rattle.judges.specs.Approximate.{point, approximate, approximates}
use Rattle.judges.specs.Demand.{fits, fits_points, fits_rows, demand_yes}
use Rattle.judges.specs.Allowance.{spare_budget, before_deadlines, within_steps, slack, point_room, within_points, within_rows, fixed_room, refined}
use Rattle.judges.specs.ApproximateLemmas.{div_mono, share_near, share_least, exact_after, approximate_steps, approximate_line, approximate_before, shares_append, approximates_append, approximates_mono}
use Rattle.judges.specs.AllowanceBounds.{points_le, fixed_le, refined_le_fixed, refined_le_spare}
use Rattle.judges.specs.AllowanceGrows.{far_room, near_room}

approximate_near : (s n : ℕ) (x : Timing) (p : ℕ) → p < point x n → x.deadline ≤ p
    → approximate s n x p ≡ s * (x.budget * (1 + (p - x.deadline) / x.period))
approximate_near s n x p h g = approximate_steps s n x p h ∙ ap (λ e. s * e) (exact_after x p g)

-- at check-point k the k-th step is taken, and no other
approximate_point : (s n : ℕ) (x : Timing) (k : ℕ) → k ≤ n → approximate s n x (point x k) ≡ s * ((k + 1) * x.budget)
approximate_point s n x k h =
    let t = x.period in
    let tp : 0 < t = omega arith in
    let turn : (point x k - x.deadline) / t ≡ k = ap (λ v. v / t) (omega arith) ∙ mul-div_cancel k tp in
    elim (cases_lt k n) [
      | inl less ↦
          approximate_near s n x (point x k) (omega (arith, mul-lt-mul_of_pos_right less tp)) (omega arith)
          ∙ ap (λ j. s * (x.budget * (1 + j))) turn
          ∙ omega arith
      | inr last ↦
          let end : k ≡ n = omega arith in
          rw end (approximate_line s n x (point x n) (le_refl (point x n)) ∙ rw sub_self (omega arith))
    ]

positive_left : (a b : ℕ) → 0 < a * b → 0 < a
positive_left zero b h = omega arith
positive_left (suc a) b h = omega arith

-- products in place of quotients
far_product : (s n t q d b : ℕ) → 0 < s → 0 < t → 0 < b → b ≤ far_room s n t q d
    → b * (s * ((n + 1) * t + d)) + (t - 1) * d ≤ q * t
far_product s n t q d b sp tp bp h =
    let some : 0 < (n + 1) * t + d = omega (arith, mul-pos {m = n + 1} {n = t} (omega arith) tp) in
    let whole : 0 < s * ((n + 1) * t + d) = mul-pos sp some in
    let top : b * (s * ((n + 1) * t + d)) ≤ q * t - (t - 1) * d = (le-div_iff_mul-le whole).0 h in
    let left : 0 < b * (s * ((n + 1) * t + d)) = mul-pos bp whole in
    omega arith

far_bears : (s n t b u d e q : ℕ) → 0 < t → u * t ≤ b * s + (t - 1) → e ≤ d
    → b * (s * ((n + 1) * t + d)) + (t - 1) * d ≤ q * t → s * ((n + 1) * b) + u * e ≤ q
far_bears s n t b u d e q tp share near all =
    le_of_mul-le-mul_right {k = t}
    (omega (arith, mul-le-mul_right e share, mul-le-mul_left (b * s) near, mul-le-mul_left (t - 1) near))
    tp

-- The tail at a check-point of slack q, where the start value is at most the tail.
abbrev Borne : ℕ → ℕ → Timing → ℕ → ℕ → Type 0
Borne s n x p q = (approximate s n x p ≤ q) × (0 < q)

borne_far : (s n : ℕ) (x : Timing) (a p q : ℕ) → 0 < s → x.deadline ≡ x.budget → a ≤ x.budget → x.budget ≤ p
    → n * x.period + a ≤ p → x.budget ≤ far_room s n x.period q (p - (n * x.period + a)) → Borne s n x p q
borne_far s n x a p q sp same start later past room =
    let t = x.period in
    let b = x.budget in
    let d = p - (n * t + a) in
    let tp : 0 < t = omega arith in
    let bp : 0 < b = omega arith in
    let product : b * (s * ((n + 1) * t + d)) + (t - 1) * d ≤ q * t = far_product s n t q d b sp tp bp room in
    let some : 0 < b * s * t = mul-pos (mul-pos bp sp) tp in
    let much : 0 < q * t = omega (arith, mul-le-mul_left (b * s * t) (zero-le {n = n})) in
    let slack-some : 0 < q = positive_left q t much in
    elim (cases_lt p (point x n)) [
      | inl inside ↦
          let fewer : (p - x.deadline) / t < n = (div-lt_iff_lt-mul {k = t} {x = p - x.deadline} {y = n} tp).1 (omega arith) in (
            rw (approximate_near s n x p inside (omega arith))
                (le_of_mul-le-mul_right {k = t} (omega (arith, mul-le-mul_left (s * b * t) fewer)) tp),
            slack-some,
          )
      | inr outside ↦ (
        rw (approximate_line s n x p outside)
            (far_bears s n t b (share s x) d (p - point x n) q tp (share_near s x) (omega arith) product),
        slack-some,
      )
    ]

borne_near : (s n : ℕ) (x : Timing) (a p q : ℕ) → 0 < s → x.deadline ≡ x.budget → a ≤ x.budget → x.budget ≤ p
    → p < n * x.period + a → x.budget ≤ near_room s q ((p - a) / x.period) → Borne s n x p q
borne_near s n x a p q sp same start later inside room =
    let t = x.period in
    let b = x.budget in
    let j = (p - a) / t in
    let i = (p - x.deadline) / t in
    let fewer : i ≤ j = div_mono (p - x.deadline) (p - a) t (omega arith) (omega arith) in
    let whole : 0 < s * (j + 1) = mul-pos sp (omega arith) in
    let product : b * (s * (j + 1)) ≤ q = (le-div_iff_mul-le whole).0 room in
    let some : 0 < b * (s * (j + 1)) = mul-pos (omega arith) whole in (
      rw (approximate_near s n x p (omega arith) (omega arith)) (omega (arith, mul-le-mul_left (s * b) fewer)),
      omega arith,
    )

borne : (s n : ℕ) (x : Timing) (a p q : ℕ) → 0 < s → x.deadline ≡ x.budget → a ≤ x.budget → x.budget ≤ p
    → x.budget ≤ point_room s n x.period a p q → Borne s n x p q
borne s n x a p q sp same start later room =
    let t = x.period in
    let past = far_room s n t q (p - (n * t + a)) in
    let before = near_room s q ((p - a) / t) in
    elim (cases_lt p (n * t + a)) [
      | inl inside ↦ borne_near s n x a p q sp same start later inside
          (rw (cond-false (nat_le (n * t + a) p) past before (lt-leb (n * t + a) p inside)) at room)
      | inr outside ↦ borne_far s n x a p q sp same start later outside
          (rw (cond-true (nat_le (n * t + a) p) past before (le-leb (n * t + a) p outside)) at room)
    ]

-- one more at the end fits, where the others leave what it wants
fits_more : (s n : ℕ) (l : List Timing) (x : Timing) (p : ℕ) → approximates s n l p + approximate s n x p ≤ s * p
    → fits s n (l ++ (x ∷ [])) p ≡ true
fits_more s n l x p h =
    le-leb (approximates s n (l ++ (x ∷ [])) p) (s * p) (omega (arith, approximates_append s n l (x ∷ []) p))

row_points : (s n : ℕ) (l : List Timing) (x y : Timing) (a k c : ℕ) → 0 < s → x.deadline ≡ x.budget → a ≤ x.budget
    → x.budget < y.deadline → x.budget ≤ within_points s n l x.period a y k c
    → fits_points s n (l ++ (x ∷ [])) y k ≡ true
row_points s n l x y a zero c sp same start short room = refl
row_points s n l x y a (suc k) c sp same start short room =
    let p = point y k in
    let fit = borne s n x a p (slack s n l p) sp same start (omega arith) (omega arith) in
    and_from (fits_points s n (l ++ (x ∷ [])) y k) (fits s n (l ++ (x ∷ [])) p)
    (row_points s n l x y a k c sp same start short (omega arith))
    (fits_more s n l x p (omega arith))

-- below every deadline nothing is due
approximates_none : (s n : ℕ) (l : List Timing) (c p : ℕ) → 0 < p → p ≤ before_deadlines l c → approximates s n l p ≡ 0
approximates_none s n [] c p pp h = refl
approximates_none s n (y ∷ l) c p pp h =
    omega (arith, approximate_before s n y p (omega arith), approximates_none s n l c p pp (omega arith))

tail_points : (s n : ℕ) (l : List Timing) (x : Timing) (k c d : ℕ) → 0 < s → x.deadline ≡ x.budget → k ≤ n
    → x.budget ≤ spare_budget s l x.period → x.budget ≤ before_deadlines l d
    → x.budget ≤ within_steps s n l x.period k c → fits_points s n (l ++ (x ∷ [])) x (suc k) ≡ true
tail_points s n l x zero c d sp same few spare short room =
    let p = point x 0 in
    let own : p ≡ x.budget = omega arith in
    let mine : approximate s n x p ≡ s * p = approximate_point s n x 0 zero-le ∙ ap (λ v. s * v) (omega arith) in
    fits_more s n l x p (omega (arith, approximates_none s n l d p (omega arith) (omega arith)))
tail_points s n l x (suc k) c d sp same few spare short room =
    let t = x.period in
    let p = point x (suc k) in
    let m = l ++ (x ∷ []) in
    let others = approximates s n l (suc k * t + spare_budget s l t) in
    let whole : 0 < s * suc k = mul-pos sp (omega arith) in
    let product : x.budget * (s * suc k) ≤ s * (suc k * t) - others = (le-div_iff_mul-le whole).0 (omega arith) in
    let some : 0 < x.budget * (s * suc k) = mul-pos (omega arith) whole in
    let time : s * p ≡ s * (suc k * t) + s * x.budget = ap (λ v. s * (suc k * t + v)) same ∙ mul-add s (suc k * t) x.budget in
    let mine : approximate s n x p ≡ x.budget * (s * suc k) + s * x.budget = approximate_point s n x (suc k) few ∙ omega arith in
    and_from (fits_points s n m x (suc k)) (fits s n m p)
    (tail_points s n l x k c d sp same (omega arith) spare short (omega arith))
    (fits_more s n l x p
    (omega (arith, approximates_mono s n l p (suc k * t + spare_budget s l t) (omega arith))))

rows_fit : (s n : ℕ) (l : List Timing) (x : Timing) (a : ℕ) (rows : List Timing) (c d : ℕ) → 0 < s → x.deadline ≡ x.budget
    → a ≤ x.budget → x.budget ≤ before_deadlines rows d → x.budget ≤ within_rows s n l x.period a rows c
    → fits_points s n (l ++ (x ∷ [])) x (suc n) ≡ true → fits_rows s n (l ++ (x ∷ [])) (rows ++ (x ∷ [])) ≡ true
rows_fit s n l x a [] c d sp same start short room tail = and_from (fits_points s n (l ++ (x ∷ [])) x (suc n)) true tail refl
rows_fit s n l x a (y ∷ rows) c d sp same start short room tail =
    let m = l ++ (x ∷ []) in
    let rest = within_rows s n l x.period a rows c in
    and_from (fits_points s n m y (suc n)) (fits_rows s n m (rows ++ (x ∷ [])))
    (row_points s n l x y a (suc n) rest sp same start (omega arith) room)
    (rows_fit s n l x a rows c d sp same start (omega arith) (le_trans room (points_le s n l x.period a y (suc n) rest)) tail)

shares_fit : (s : ℕ) (l : List Timing) (x : Timing) → 0 < s → x.budget ≤ spare_budget s l x.period
    → shares s (l ++ (x ∷ [])) ≤ s
shares_fit s l x sp h =
    let t = x.period in
    let product : x.budget * s ≤ (s - shares s l) * t = (le-div_iff_mul-le sp).0 h in
    let few : share s x ≤ s - shares s l = share_least s x (s - shares s l) product in
    let some : 0 < x.budget * s = mul-pos (omega arith) sp in
    let left : 0 < s - shares s l = positive_left (s - shares s l) t (omega arith) in
    omega (arith, shares_append s l (x ∷ []))

pub tail_taken : (s n : ℕ) (l : List Timing) (x : Timing) (c a : ℕ) → 0 < s → length l ≤ 31 → x.deadline ≡ x.budget
    → a ≤ x.budget → x.budget ≤ refined s n l x.period c a → demand_yes s n (l ++ (x ∷ [])) ≡ true
tail_taken s n l x c a sp room same start h =
    let t = x.period in
    let m = l ++ (x ∷ []) in
    let top = min c (spare_budget s l t) in
    let fixed : x.budget ≤ fixed_room s n l t c = le_trans h (refined_le_fixed s n l t c a) in
    let short : x.budget ≤ before_deadlines l top = le_trans fixed (fixed_le s n l t c) in
    let spare : x.budget ≤ spare_budget s l t = le_trans h (refined_le_spare s n l t c a) in
    and_from (nat_le (length m) 32) (nat_le (shares s m) s && fits_rows s n m m)
    (le-leb (length m) 32 (omega (arith, length-append l (x ∷ []))))
    (and_from (nat_le (shares s m) s) (fits_rows s n m m)
    (le-leb (shares s m) s (shares_fit s l x sp spare))
    (rows_fit s n l x a l (fixed_room s n l t c) top sp same start short h
    (tail_points s n l x n (before_deadlines l top) top sp same (le_refl n) spare short fixed)))
