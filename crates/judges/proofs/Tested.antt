-- The demand judge's tests, in the library's word and one after another. Assumes nothing.
use Rattle.std.proofs.Common.{◌≡◌, ℕ, zero, suc, ◌+◌, ◌*◌, ◌<◌, true, false, ◌&&◌, List, [], ◌∷◌, ◌++◌, refl, ap, ap₂, ◌∙◌, zero-add, arith, Bool, length, ◌≤◌, sym, nat_le, get_or, drop, inl, inr, add-one}
use Rattle.std.proofs.Math.Bool.{and-true}
use Rattle.std.specs.List.{list_all, range_with_len}
use Rattle.std.proofs.lemmas.List.Folds.{list_all-append}
use Rattle.std.proofs.lemmas.Bool.{cases_eq, and_from, and_left, and_right, le-leb, lt-leb}
use Rattle.model.specs.Share.{shares}
use Rattle.model.specs.declared.timing.Timing.{Timing}
use Rattle.judges.specs.Approximate.{point, approximates}
use Rattle.judges.specs.Demand.{fits, fits_points, fits_rows, demand_yes}
use Rattle.judges.proofs.Walk.{left_more}

range_more : (a k : ℕ) → range_with_len a (suc k) ≡ range_with_len a k ++ ((a + k) ∷ [])
range_more a zero = ap (λ i. i ∷ []) (omega arith)
range_more a (suc k) = ap (λ m. a ∷ m) (range_more (a + 1) k ∙ ap (λ i. range_with_len (a + 1) k ++ (i ∷ [])) (omega arith))

points_tested : (s n : ℕ) (l : List Timing) (x : Timing) (k : ℕ)
    → list_all (λ i. fits s n l (point x i)) (range_with_len 0 k) ≡ fits_points s n l x k
points_tested s n l x zero = refl
points_tested s n l x (suc k) =
    let p = λ (i : ℕ). fits s n l (point x i) in
    ap (list_all p) (range_more 0 k)
    ∙ list_all-append p (range_with_len 0 k) ((0 + k) ∷ [])
    ∙ ap₂ (λ a b. a && b) (points_tested s n l x k) (and-true (p (0 + k)) ∙ ap p (zero-add k))

rows_tested : (s n : ℕ) (l rows : List Timing)
    → list_all (λ x. list_all (λ k. fits s n l (point x k)) (range_with_len 0 (suc n))) rows ≡ fits_rows s n l rows
rows_tested s n l [] = refl
rows_tested s n l (x ∷ rows) = ap₂ (λ a b. a && b) (points_tested s n l x (suc n)) (rows_tested s n l rows)

-- few timings, whose shares fit, get the answer of the tests
pub all_tested : (s n : ℕ) (l : List Timing) (r : Bool) → length l ≤ 32 → shares s l ≤ s
    → r ≡ list_all (λ x. list_all (λ k. fits s n l (point x k)) (range_with_len 0 (suc n))) l → r ≡ demand_yes s n l
all_tested s n l r few room is =
    is ∙ rows_tested s n l l ∙ ap (λ b. b && fits_rows s n l l) (sym (le-leb (shares s l) s room))
    ∙ ap (λ b. b && (nat_le (shares s l) s && fits_rows s n l l)) (sym (le-leb (length l) 32 few))

-- one more check-point has passed: r is the demand at t, check-point k
pub point_passed : (s n : ℕ) (l : List Timing) (x : Timing) (k t r : ℕ) → fits_points s n l x k ≡ true → t ≡ point x k → r ≡ approximates s n l t → r ≤ s * t → fits_points s n l x (k + 1) ≡ true
point_passed s n l x k t r before at is h =
    let here : approximates s n l (point x k) ≤ s * point x k = rw (← at) (omega arith) in
    rw add-one (and_from (fits_points s n l x k) _ before (le-leb (approximates s n l (point x k)) (s * point x k) here))

-- one failed among the first m
pub point_failed : (s n : ℕ) (l : List Timing) (x : Timing) (k t r m : ℕ) → k < m → t ≡ point x k → r ≡ approximates s n l t → s * t < r → fits_points s n l x m ≡ false
point_failed s n l x k t r zero less at is h = absurd (omega arith)
point_failed s n l x k t r (suc m) less at is h =
    elim (cases_eq k m) [
      | inl last ↦
          let here : s * point x m < approximates s n l (point x m) = rw (← last, ← at) (omega arith) in
          and_right (fits_points s n l x m) _ (lt-leb (approximates s n l (point x m)) (s * point x m) here)
      | inr other ↦ and_left (fits_points s n l x m) _ (point_failed s n l x k t r m (omega arith) at is h)
    ]

-- the row at index i passed, so the tests left are those after it
pub row_passed : (s n : ℕ) (l rows : List Timing) (i : ℕ) (x : Timing) → i < length rows → x ≡ get_or rows i x → true ≡ fits_points s n l x (suc n) → fits_rows s n l (drop i rows) ≡ fits_rows s n l (drop (i + 1) rows)
row_passed s n l rows i x h at passed =
    left_more (fits_rows s n l) rows i x h at ∙ ap (λ b. b && fits_rows s n l (drop (i + 1) rows)) (sym passed)

-- it failed, so the tests failed
pub row_failed : (s n : ℕ) (l rows : List Timing) (i : ℕ) (x : Timing) → i < length rows → x ≡ get_or rows i x → false ≡ fits_points s n l x (suc n) → fits_rows s n l (drop i rows) ≡ false
row_failed s n l rows i x h at failed =
    left_more (fits_rows s n l) rows i x h at ∙ ap (λ b. b && fits_rows s n l (drop (i + 1) rows)) (sym failed)
