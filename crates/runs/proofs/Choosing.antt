-- The earliest of the pieces that pass a test. Assumes nothing.
use Rattle.std.proofs.Common.{◌≡◌, ℕ, zero, suc, ◌<◌, ◌≤◌, Bool, true, cond, leb, ◌⊎◌, sym, ap, ◌∙◌, subst, inl, inr, ⊎_elim, arith}
use Rattle.std.proofs.lemmas.Bool.{leb-true, leb-false, true≢false, cases_lt, cond_both}
use Rattle.runs.specs.Run.{Slot, idle, serves}

module _ (test : ℕ → ℕ → Bool) (due : ℕ → ℕ → ℕ) where
  abbrev pub earlier : Slot → Slot → Slot
  earlier idle y = y
  earlier (serves i k) idle = serves i k
  earlier (serves i k) (serves j m) = cond (leb (due i k) (due j m)) (serves i k) (serves j m)

  -- the earliest of row i's first n pieces, and of the first n rows' pieces
  abbrev pub of_row : ℕ → ℕ → Slot
  of_row i zero = idle
  of_row i (suc n) = earlier (of_row i n) (cond (test i n) (serves i n) idle)

  abbrev pub of_rows : (ℕ → ℕ) → ℕ → Slot
  of_rows turns zero = idle
  of_rows turns (suc n) = earlier (of_rows turns n) (of_row n (turns n))

  -- a slot is the best of some pieces: none of them passes, or it passes and none that passes is due earlier
  abbrev pub Best : (ℕ → ℕ → Type 0) → Slot → Type 0
  Best P idle = (j m : ℕ) → P j m → test j m ≡ true → ⊥
  Best P (serves i k) = (test i k ≡ true) × ((j m : ℕ) → P j m → test j m ≡ true → due i k ≤ due j m)

  best_either : (P Q R : ℕ → ℕ → Type 0) → ((j m : ℕ) → R j m → P j m ⊎ Q j m) → (x y : Slot) → Best P x → Best Q y → Best R (earlier x y)
  best_either P Q R split idle idle p q = λ j m r e. ⊎_elim (λ a. p j m a e) (λ a. q j m a e) (split j m r)
  best_either P Q R split idle (serves i k) p q =
      (q.0, λ j m r e. ⊎_elim (λ a. absurd (p j m a e)) (λ a. q.1 j m a e) (split j m r))
  best_either P Q R split (serves i k) idle p q =
      (p.0, λ j m r e. ⊎_elim (λ a. p.1 j m a e) (λ a. absurd (q j m a e)) (split j m r))
  best_either P Q R split (serves i k) (serves i' k') p q =
      cond_both (leb (due i k) (due i' k')) (serves i k) (serves i' k') (Best R)
      (λ l. (p.0, λ j m r e. ⊎_elim (λ a. p.1 j m a e) (λ a. omega (arith, q.1 j m a e, leb-true (due i k) (due i' k') l)) (split j m r)))
      (λ l. (q.0, λ j m r e. ⊎_elim (λ a. omega (arith, p.1 j m a e, leb-false (due i k) (due i' k') l)) (λ a. q.1 j m a e) (split j m r)))

  best_one : (i k : ℕ) → Best (λ j m. (j ≡ i) × (m ≡ k)) (cond (test i k) (serves i k) idle)
  best_one i k = cond_both (test i k) (serves i k) idle (Best (λ j m. (j ≡ i) × (m ≡ k)))
      (λ e. (e, λ j m p f. rw (p.0, p.1) (omega arith)))
      (λ e. λ j m p f. true≢false (sym f ∙ (ap (λ x. test x m) p.0 ∙ (ap (test i) p.1 ∙ e))))

  best_row : (i n : ℕ) → Best (λ j m. (j ≡ i) × (m < n)) (of_row i n)
  best_row i zero = λ j m p e. omega (arith, p.1)
  best_row i (suc n) = best_either (λ j m. (j ≡ i) × (m < n)) (λ j m. (j ≡ i) × (m ≡ n)) (λ j m. (j ≡ i) × (m < suc n))
      (λ j m p. ⊎_elim (λ (l : m < n). inl (p.0, l)) (λ (l : n ≤ m). inr (p.0, omega (arith, p.1))) (cases_lt m n))
      (of_row i n) (cond (test i n) (serves i n) idle) (best_row i n) (best_one i n)

  pub best_rows : (turns : ℕ → ℕ) (n : ℕ) → Best (λ j m. (j < n) × (m < turns j)) (of_rows turns n)
  best_rows turns zero = λ j m p e. omega (arith, p.0)
  best_rows turns (suc n) = best_either (λ j m. (j < n) × (m < turns j)) (λ j m. (j ≡ n) × (m < turns n)) (λ j m. (j < suc n) × (m < turns j))
      (λ j m p. ⊎_elim (λ (l : j < n). inl (l, p.1))
      (λ (l : n ≤ j). let e : j ≡ n = omega (arith, p.0) in inr (e, subst (λ x. m < turns x) e p.1)) (cases_lt j n))
      (of_rows turns n) (of_row n (turns n)) (best_rows turns n) (best_row n (turns n))
