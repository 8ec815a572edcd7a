-- What the order's chains find is what its definitions say. Assumes nothing.
use Rattle.std.proofs.Common.{◌≡◌, ℕ, zero, suc, ◌+◌, ◌<◌, ◌≤◌, ◌≢◌, Bool, true, false, cond, List, ◌∷◌, eqb, refl, sym, ◌∙◌, ap, count_by, inl, inr, add-one, eq-eqb, arith}
use Rattle.std.proofs.lemmas.List.Recursion.{is_count_by}
use Rattle.std.proofs.lemmas.Bool.{cases_eq, and_left, and_right, ne_eqb}
use Rattle.placement.specs.Order.{times, once_each}
use Rattle.placement.specs.Ranks.{position}

one_more : (b : Bool) (n : ℕ) → cond b (suc n) n ≡ cond b (1 + n) n
one_more true n = omega arith
one_more false n = refl

pub times_count : (k : ℕ) (l : List ℕ) → times k l ≡ count_by (λ x. eqb x k) l
times_count k = is_count_by (times k) (λ x. eqb x k) refl (λ x l. one_more (eqb x k) (times k l))

pub position_here : (p x : ℕ) (l : List ℕ) → eqb x p ≡ true → position p (x ∷ l) ≡ 0
position_here p x l e = ap (λ b. cond b 0 (suc (position p l))) e

pub position_past : (p x : ℕ) (l : List ℕ) → eqb x p ≡ false → position p (x ∷ l) ≡ position p l + 1
position_past p x l e = ap (λ b. cond b 0 (suc (position p l))) e ∙ sym (add-one (position p l))

each_once : (n : ℕ) (l : List ℕ) → ((k : ℕ) → 1 ≤ k → k < n + 1 → times k l ≡ 1) → once_each n l ≡ true
each_once zero l h = refl
each_once (suc n) l h =
    let last : eqb (times (suc n) l) 1 ≡ true = eq-eqb (times (suc n) l) 1 (h (suc n) (omega arith) (omega arith)) in
    rw (each_once n l (λ k lo hi. h k lo (omega arith)), last)

-- one of the first n stands there never, or twice
not_once : (k n : ℕ) (l : List ℕ) → 1 ≤ k → k < n + 1 → times k l ≢ 1 → once_each n l ≡ false
not_once k zero l lo hi h = absurd (omega arith)
not_once k (suc n) l lo hi h =
    elim (cases_eq k (suc n)) [
      | inl last ↦ and_right (once_each n l) _ (ne_eqb (times (suc n) l) 1 (rw (← last) h))
      | inr other ↦ and_left (once_each n l) _ (not_once k n l lo (omega arith) h)
    ]

pub once_each_is : (r : Bool) (n : ℕ) (l : List ℕ) → (r ≡ true → (k : ℕ) → 1 ≤ k → k < n + 1 → times k l ≡ 1)
    → (r ≡ false → (k : ℕ) × (1 ≤ k) × (k < n + 1) × (times k l ≢ 1)) → r ≡ once_each n l
once_each_is true n l each some = sym (each_once n l (each refl))
once_each_is false n l each some = let at = some refl in sym (not_once at.0 n l at.1 at.2 at.3)
