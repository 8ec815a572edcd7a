-- The table of slacks, place by place and row by row. Assumes nothing.
use Rattle.std.proofs.Common.{◌≡◌, ℕ, suc, ◌+◌, ◌<◌, ◌≢◌, List, [], ◌∷◌, length, get_or, set, refl, sym, ap, ◌∙◌, inl, inr, arith, below_more}
use Rattle.std.proofs.lemmas.List.{get_or_default, get_or-set_same, get_or-set_other}
use Rattle.std.proofs.lemmas.Bool.{cases_eq}
use Rattle.model.specs.declared.timing.Timing.{Timing}
use Rattle.judges.specs.Approximate.{point}
use Rattle.judges.specs.Allowance.{slack}
use Rattle.judges.specs.Table.{Slacks, Table}

-- one more place of a row
pub place_filled : (s n : ℕ) (l : List Timing) (x : Timing) (k : ℕ) (row : List ℕ) (v p : ℕ)
    → Slacks s n l x k row → k < length row → p ≡ point x k → v ≡ slack s n l p → Slacks s n l x (k + 1) (set row k v)
place_filled s n l x k row v p before room at is =
    below_more (λ j. get_or (set row k v) j 0 ≡ slack s n l (point x j)) k
    (λ j h. let other : j ≢ k = omega arith in get_or-set_other row k j v 0 other ∙ before j h)
    (get_or-set_same row k v 0 room ∙ is ∙ ap (slack s n l) at)

-- one more row of the table
pub row_filled : (s n : ℕ) (l : List Timing) (i : ℕ) (x : Timing) (rows : List (List ℕ)) (row : List ℕ)
    → Table s n l i rows → i < length rows → x ≡ get_or l i x → i < length l → Slacks s n l x (suc n) row
    → Table s n l (i + 1) (set rows i row)
row_filled s n l i x rows row before room at inside is j y h there k few =
    elim (cases_eq j i) [
      | inl same ↦
          let one : x ≡ y = at ∙ get_or_default l i x y inside ∙ ap (λ m. get_or l m y) (sym same) ∙ sym there in
          ap (λ m. get_or (get_or (set rows i row) m []) k 0) same
          ∙ ap (λ r. get_or r k 0) (get_or-set_same rows i row [] room)
          ∙ is k few
          ∙ ap (λ z. slack s n l (point z k)) one
      | inr other ↦ ap (λ r. get_or r k 0) (get_or-set_other rows i j row [] other) ∙ before j y (omega arith) there k few
    ]

-- the slacks of these timings, a row for each
abbrev pub Rows : ℕ → ℕ → List Timing → List Timing → List (List ℕ) → Type 0
Rows s n l xs rows = (i : ℕ) (x : Timing) → i < length xs → x ≡ get_or xs i x → Slacks s n l x (suc n) (get_or rows i [])

-- the first of them, and the others
pub first_row : (s n : ℕ) (l : List Timing) (x : Timing) (row : List ℕ) (xs rest : List Timing) (rows more : List (List ℕ))
    → xs ≡ x ∷ rest → rows ≡ row ∷ more → Rows s n l xs rows → Slacks s n l x (suc n) row × Rows s n l rest more
first_row s n l x row xs rest rows more e f all =
    let here : Rows s n l (x ∷ rest) (row ∷ more) = rw (e, f) at all in
    (here 0 x (omega arith) refl, λ i y h at. here (suc i) y (omega arith) at)
