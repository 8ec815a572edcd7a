-- Sums over the rows of a key. Assumes nothing.
use Rattle.std.proofs.Common.{◌≡◌, ℕ, zero, suc, ◌+◌, ◌<◌, ◌≤◌, Bool, true, false, cond, eqb, List, [], ◌∷◌, Some, refl, ◌∙◌, arith}
use Rattle.std.specs.List.{slice_get}
use Rattle.std.proofs.lemmas.Bool.{eqb-true, eq-eqb}
use Rattle.model.specs.declared.row.Row.{Row}
use Rattle.runs.specs.Plan.{sum_at, total}

module _ {A : Type 0} where
  pub sum_at_le : (f g : ℕ → A → ℕ) (l : List A) → ((i : ℕ) (x : A) → slice_get l i ≡ Some x → f i x ≤ g i x) → sum_at f l ≤ sum_at g l
  sum_at_le f g [] h = omega arith
  sum_at_le f g (x ∷ l) h = omega (arith, h 0 x refl, sum_at_le (λ i. f (suc i)) (λ i. g (suc i)) l (λ i. h (suc i)))

  pub sum_at_same : (f g : ℕ → A → ℕ) (l : List A) → ((i : ℕ) (x : A) → slice_get l i ≡ Some x → f i x ≡ g i x) → sum_at f l ≡ sum_at g l
  sum_at_same f g [] h = refl
  sum_at_same f g (x ∷ l) h = omega (arith, h 0 x refl, sum_at_same (λ i. f (suc i)) (λ i. g (suc i)) l (λ i. h (suc i)))

  pub sum_at_both : (f g : ℕ → A → ℕ) (l : List A) → sum_at (λ i x. f i x + g i x) l ≡ sum_at f l + sum_at g l
  sum_at_both f g [] = refl
  sum_at_both f g (x ∷ l) = omega (arith, sum_at_both (λ i. f (suc i)) (λ i. g (suc i)) l)

  -- a sum is at least what one place adds to it
  pub sum_at_one : (f : ℕ → A → ℕ) (l : List A) (i : ℕ) (x : A) → slice_get l i ≡ Some x → f i x ≤ sum_at f l
  sum_at_one f [] i x e = let z : ◌≡◌ {A = ℕ} 0 1 = cc in omega arith
  sum_at_one f (y ∷ l) zero x e = let s : y ≡ x = cc in rw (← s) (omega arith)
  sum_at_one f (y ∷ l) (suc i) x e = omega (arith, sum_at_one (λ i. f (suc i)) l i x e)

  -- and at least what two places add
  pub sum_at_two : (f : ℕ → A → ℕ) (l : List A) (i j : ℕ) (x y : A) → i < j → slice_get l i ≡ Some x → slice_get l j ≡ Some y → f i x + f j y ≤ sum_at f l
  sum_at_two f [] i j x y b e e' = let z : ◌≡◌ {A = ℕ} 0 1 = cc in omega arith
  sum_at_two f (z ∷ l) i zero x y b e e' = omega arith
  sum_at_two f (z ∷ l) zero (suc j) x y b e e' = let s : z ≡ x = cc in rw (← s) (omega (arith, sum_at_one (λ i. f (suc i)) l j y e'))
  sum_at_two f (z ∷ l) (suc i) (suc j) x y b e e' = omega (arith, sum_at_two (λ i. f (suc i)) l i j x y (omega arith) e e')

-- what holds of each row of a key
abbrev pub Rows : ℕ → List (List Row) → (ℕ → ℕ → Row → Type 0) → Type 0
Rows key plan P = (p i : ℕ) (rows : List Row) (r : Row) → slice_get plan p ≡ Some rows → slice_get rows i ≡ Some r → r.key ≡ key → P p i r

module _ (key : ℕ) (plan : List (List Row)) where
  pub total_same : (f g : ℕ → ℕ → Row → ℕ) → Rows key plan (λ p i r. f p i r ≡ g p i r) → total f key plan ≡ total g key plan
  total_same f g h = sum_at_same
      (λ p rows. sum_at (λ i r. cond (eqb r.key key) (f p i r) 0) rows) (λ p rows. sum_at (λ i r. cond (eqb r.key key) (g p i r) 0) rows) plan
      (λ p rows e. sum_at_same (λ i r. cond (eqb r.key key) (f p i r) 0) (λ i r. cond (eqb r.key key) (g p i r) 0) rows
      (λ i r e'. own (eqb r.key key) (f p i r) (g p i r) (λ b. h p i rows r e e' (eqb-true r.key key b))))
    where
      own : (b : Bool) (x y : ℕ) → (b ≡ true → x ≡ y) → cond b x 0 ≡ cond b y 0
      own true x y h = h refl
      own false x y h = refl

  pub total_le : (f g : ℕ → ℕ → Row → ℕ) → Rows key plan (λ p i r. f p i r ≤ g p i r) → total f key plan ≤ total g key plan
  total_le f g h = sum_at_le
      (λ p rows. sum_at (λ i r. cond (eqb r.key key) (f p i r) 0) rows) (λ p rows. sum_at (λ i r. cond (eqb r.key key) (g p i r) 0) rows) plan
      (λ p rows e. sum_at_le (λ i r. cond (eqb r.key key) (f p i r) 0) (λ i r. cond (eqb r.key key) (g p i r) 0) rows
      (λ i r e'. own (eqb r.key key) (f p i r) (g p i r) (λ b. h p i rows r e e' (eqb-true r.key key b))))
    where
      own : (b : Bool) (x y : ℕ) → (b ≡ true → x ≤ y) → cond b x 0 ≤ cond b y 0
      own true x y h = h refl
      own false x y h = omega arith

  pub total_both : (f g : ℕ → ℕ → Row → ℕ) → total (λ p i r. f p i r + g p i r) key plan ≡ total f key plan + total g key plan
  total_both f g =
      sum_at_same (λ p rows. sum_at (λ i r. cond (eqb r.key key) (f p i r + g p i r) 0) rows)
      (λ p rows. sum_at (λ i r. cond (eqb r.key key) (f p i r) 0) rows + sum_at (λ i r. cond (eqb r.key key) (g p i r) 0) rows) plan
      (λ p rows e.
      sum_at_same (λ i r. cond (eqb r.key key) (f p i r + g p i r) 0)
      (λ i r. cond (eqb r.key key) (f p i r) 0 + cond (eqb r.key key) (g p i r) 0) rows
      (λ i r e'. own (eqb r.key key) (f p i r) (g p i r))
      ∙ sum_at_both (λ i r. cond (eqb r.key key) (f p i r) 0) (λ i r. cond (eqb r.key key) (g p i r) 0) rows)
      ∙ sum_at_both (λ p rows. sum_at (λ i r. cond (eqb r.key key) (f p i r) 0) rows)
      (λ p rows. sum_at (λ i r. cond (eqb r.key key) (g p i r) 0) rows) plan
    where
      own : (b : Bool) (x y : ℕ) → cond b (x + y) 0 ≡ cond b x 0 + cond b y 0
      own true x y = refl
      own false x y = refl

  pub total_one : (f : ℕ → ℕ → Row → ℕ) → Rows key plan (λ p i r. f p i r ≤ total f key plan)
  total_one f p i rows r e e' own =
      let inner = sum_at_one (λ i r. cond (eqb r.key key) (f p i r) 0) rows i r e' in
      let outer = sum_at_one (λ p rows. sum_at (λ i r. cond (eqb r.key key) (f p i r) 0) rows) plan p rows e in
      let is : cond (eqb r.key key) (f p i r) 0 ≡ f p i r = rw (eq-eqb r.key key own) refl in
      omega (arith, inner, outer, is)

  -- rows on different processors both count
  pub total_two : (f : ℕ → ℕ → Row → ℕ) (p i q j : ℕ) (rows rows' : List Row) (r r' : Row) → p < q →
      slice_get plan p ≡ Some rows → slice_get rows i ≡ Some r → r.key ≡ key →
      slice_get plan q ≡ Some rows' → slice_get rows' j ≡ Some r' → r'.key ≡ key → f p i r + f q j r' ≤ total f key plan
  total_two f p i q j rows rows' r r' b e d own e' d' own' =
      let first = sum_at_one (λ i r. cond (eqb r.key key) (f p i r) 0) rows i r d in
      let second = sum_at_one (λ i r. cond (eqb r.key key) (f q i r) 0) rows' j r' d' in
      let both = sum_at_two (λ p rows. sum_at (λ i r. cond (eqb r.key key) (f p i r) 0) rows) plan p q rows rows' b e e' in
      let is : cond (eqb r.key key) (f p i r) 0 ≡ f p i r = rw (eq-eqb r.key key own) refl in
      let is' : cond (eqb r'.key key) (f q j r') 0 ≡ f q j r' = rw (eq-eqb r'.key key own') refl in
      omega (arith, first, second, both, is, is')
