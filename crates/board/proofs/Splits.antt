-- Splitting, tail by tail, and the rows that come of it. Assumes nothing.
use Rattle.std.proofs.Common.{◌≡◌, ℕ, suc, ◌+◌, ◌-◌, ◌<◌, ◌≤◌, List, [], ◌∷◌, ◌++◌, reverse, length, drop, Some, None, Option, sym, ap, ◌∙◌, arith}
use Rattle.std.proofs.lemmas.List.{append_assoc, append-nil, at_drop_all, length-reverse, get_or-reverse}
use Rattle.model.specs.declared.timing.Timing.{Timing}
use Rattle.model.specs.declared.row.Kind.{Kind}
use Rattle.board.specs.declared.cut.Cut.{Cut}
use Rattle.board.specs.declared.admission.Placed.{Placed}
use Rattle.board.specs.Split.{placed, served, tails, split_rows, or_more, after_cut, split}
use Rattle.processor.specs.Few.{pushed}
use Rattle.processor.proofs.Steps.{step}

pub first_of : {A : Type 0} (xs ys : List A) (x : A) → xs ≡ [] → ys ≡ pushed 8 xs x → ys ≡ x ∷ []
first_of xs ys x none one = one ∙ ap (λ l. pushed 8 l x) none

pub tails_more :
    (key : ℕ) (cuts : List Cut) (i : ℕ) (cut : Cut) (rows grown total : List Placed) → i < length cuts →
    cut ≡ served cuts i cut →
    grown ≡ rows ++ (placed key cut.processor (Kind.Tail (i + 1)) cut.timing ∷ []) →
    rows ++ tails key (i + 1) (drop i (reverse cuts)) ≡ total → grown ++ tails key (i + 1 + 1) (drop (i + 1) (reverse cuts)) ≡ total
tails_more key cuts i cut rows grown total h here more so =
    let rest = tails key (i + 1 + 1) (drop (i + 1) (reverse cuts)) in
    let row = placed key cut.processor (Kind.Tail (i + 1)) cut.timing in
    ap (λ l. l ++ rest) more ∙ append_assoc rows (row ∷ []) rest
    ∙ ap (λ l. rows ++ l) (sym (step (tails key (i + 1)) (reverse cuts) i cut (omega (arith, length-reverse cuts))
    (here ∙ sym (get_or-reverse cuts i cut h))))
    ∙ so

pub tails_all :
    (key : ℕ) (cuts : List Cut) (i : ℕ) (rows total : List Placed) → length cuts ≤ i →
    rows ++ tails key (i + 1) (drop i (reverse cuts)) ≡ total → rows ≡ total
tails_all key cuts i rows total h so =
    sym (append-nil rows)
    ∙ ap (λ l. rows ++ l) (sym (at_drop_all (tails key (i + 1)) (reverse cuts) i (omega (arith, length-reverse cuts)))) ∙ so

module _ (key : ℕ) (place : List Cut → Timing → Option ℕ) (next : List Cut → Timing → Option (Cut × Timing))
    (m k : ℕ) (h : k < m) (cuts : List Cut) (x : Timing) where
  -- one turn more
  turn : split key place next (m - k) cuts x ≡ after_cut key place (split key place next (m - (k + 1))) cuts (next cuts x)
  turn = let e : m - k ≡ suc (m - (k + 1)) = omega arith in ap (λ n. split key place next n cuts x) e

  pub split_none : next cuts x ≡ None → split key place next (m - k) cuts x ≡ None
  split_none e = turn ∙ ap (after_cut key place (split key place next (m - (k + 1))) cuts) e

  module _ (s : Cut × Timing) (set : next cuts x ≡ Some s) (grown : List Cut) (grew : grown ≡ cuts ++ (s.0 ∷ [])) where
    try : split key place next (m - k) cuts x
        ≡ or_more (λ p. split_rows key p s.1 grown) (place grown s.1) (split key place next (m - (k + 1)) grown s.1)
    try = turn ∙ ap (after_cut key place (split key place next (m - (k + 1))) cuts) set
        ∙ ap (λ g. or_more (λ p. split_rows key p s.1 g) (place g s.1) (split key place next (m - (k + 1)) g s.1)) (sym grew)

    pub split_placed : (p : ℕ) → place grown s.1 ≡ Some p → split key place next (m - k) cuts x ≡ Some (split_rows key p s.1 grown)
    split_placed p e =
        try ∙ ap (λ o. or_more (λ p. split_rows key p s.1 grown) o (split key place next (m - (k + 1)) grown s.1)) e

    pub split_on : place grown s.1 ≡ None → split key place next (m - k) cuts x ≡ split key place next (m - (k + 1)) grown s.1
    split_on e =
        try ∙ ap (λ o. or_more (λ p. split_rows key p s.1 grown) o (split key place next (m - (k + 1)) grown s.1)) e
