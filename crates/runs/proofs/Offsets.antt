-- Where the parts of an instance lie after its release. Assumes nothing.
use Rattle.std.proofs.Common.{◌≡◌, ℕ, zero, suc, ◌+◌, ◌<◌, ◌≤◌, Bool, true, false, cond, eqb, ltb, List, refl, ⊎_elim, arith}
use Rattle.std.proofs.lemmas.Bool.{eq-eqb, ne_eqb, lt-ltb, le-ltb, cases_lt, cases_order}
use Rattle.model.specs.declared.row.Row.{Row}
use Rattle.model.specs.Row.{part}
use Rattle.runs.specs.Plan.{total, span, part_span, offset}
use Rattle.runs.proofs.Totals.{Rows, total_le, total_both, total_one}

one_more : (m n v : ℕ) → cond (ltb m n) v 0 + cond (eqb m n) v 0 ≤ cond (ltb m (suc n)) v 0
one_more m n v = ⊎_elim
    (λ (e : m ≡ n). rw (le-ltb m n (omega arith), eq-eqb m n e, lt-ltb m (suc n) (omega arith)) (omega arith))
    (⊎_elim
    (λ (l : m < n). rw (lt-ltb m n l, ne_eqb m n (λ e. omega arith), lt-ltb m (suc n) (omega arith)) (omega arith))
    (λ (l : n < m). rw (le-ltb m n (omega arith), ne_eqb m n (λ e. omega arith), le-ltb m (suc n) (omega arith)) (omega arith)))
    (cases_order m n)

module _ (plan : List (List Row)) (key : ℕ) where
  -- an offset counts no row twice
  offset_counts : (n : ℕ) → offset plan key n ≤ total (λ p i r. cond (ltb (part r.kind) n) (span r) 0) key plan
  offset_counts zero = omega arith
  offset_counts (suc n) = omega (
    arith,
    offset_counts n,
    total_both key plan (λ p i r. cond (ltb (part r.kind) n) (span r) 0) (λ p i r. cond (eqb (part r.kind) n) (span r) 0),
    total_le key plan (λ p i r. cond (ltb (part r.kind) n) (span r) 0 + cond (eqb (part r.kind) n) (span r) 0)
        (λ p i r. cond (ltb (part r.kind) (suc n)) (span r) 0)
        (λ p i rows r e e' own. one_more (part r.kind) n (span r)),
  )

  offset_all : (n : ℕ) → offset plan key n ≤ total (λ p i r. span r) key plan
  offset_all n = omega (
    arith,
    offset_counts n,
    total_le key plan (λ p i r. cond (ltb (part r.kind) n) (span r) 0) (λ p i r. span r)
        (λ p i rows r e e' own. at_most (ltb (part r.kind) n) (span r)),
  )
    where
      at_most : (b : Bool) (v : ℕ) → cond b v 0 ≤ v
      at_most true v = omega arith
      at_most false v = omega arith

  -- a row's part is as long as the row, or longer
  pub span_part : Rows key plan (λ p i r. span r ≤ part_span plan key (part r.kind))
  span_part p i rows r e e' own =
      let is : cond (eqb (part r.kind) (part r.kind)) (span r) 0 ≡ span r = rw (eq-eqb (part r.kind) (part r.kind) refl) refl in
      omega (arith, is, total_one key plan (λ p i x. cond (eqb (part x.kind) (part r.kind)) (span x) 0) p i rows r e e' own)

  -- no part is due after all of them
  pub due_all : Rows key plan (λ p i r. offset plan key (part r.kind) + span r ≤ total (λ p i r. span r) key plan)
  due_all p i rows r e e' own = omega (arith, span_part p i rows r e e' own, offset_all (suc (part r.kind)))

  -- a row of an earlier part is due when any later part starts, or before
  pub due_before : (m : ℕ) → Rows key plan (λ p i r. part r.kind < m → offset plan key (part r.kind) + span r ≤ offset plan key m)
  due_before zero p i rows r e e' own b = omega arith
  due_before (suc m) p i rows r e e' own b = ⊎_elim
      (λ (l : part r.kind < m). omega (arith, due_before m p i rows r e e' own l))
      (λ (l : m ≤ part r.kind). let s : m ≡ part r.kind = omega arith in rw s (omega (arith, span_part p i rows r e e' own)))
      (cases_lt (part r.kind) m)
