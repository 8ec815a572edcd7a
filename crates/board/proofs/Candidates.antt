-- The candidates for a timing, processor by processor. Assumes nothing.
use Rattle.std.proofs.Common.{◌≡◌, ℕ, ◌+◌, ◌<◌, ◌≤◌, Bool, true, false, cond, not, ◌&&◌, List, [], ◌∷◌, ◌++◌, length, get_or, drop, sym, ap, ◌∙◌}
use Rattle.std.proofs.lemmas.List.{at_drop_more, at_drop_all, append_assoc, append-nil}
use Rattle.model.specs.declared.timing.Timing.{Timing}
use Rattle.model.specs.declared.row.Row.{Row}
use Rattle.placement.specs.declared.candidate.Candidate.{Candidate}
use Rattle.board.specs.declared.cut.Cut.{Cut}
use Rattle.processor.specs.Taking.{takes, as_candidate}
use Rattle.board.specs.Place.{used, open_to, candidates}

module _ (accepts : List Timing → Bool) (cuts : List Cut) (x : Timing) (p : ℕ) (rows : List Row) where
  -- a processor without a part of the newcomer is asked, and one with a part is not
  pub open_asked : used cuts p ≡ false → open_to accepts cuts x p rows ≡ takes accepts rows x
  open_asked e = ap (λ b. not b && takes accepts rows x) e

  pub open_used : used cuts p ≡ true → open_to accepts cuts x p rows ≡ false
  open_used e = ap (λ b. not b && takes accepts rows x) e

module _ (test : ℕ → List Row → Bool) (plan : List (List Row)) (i : ℕ) where
  pub candidates_more :
      (found grown total : List Candidate) → i < length plan → test (i + 1) (get_or plan i []) ≡ true →
      grown ≡ found ++ (as_candidate (i + 1) (get_or plan i []) ∷ []) → found ++ candidates test (i + 1) (drop i plan) ≡ total →
      grown ++ candidates test (i + 1 + 1) (drop (i + 1) plan) ≡ total
  candidates_more found grown total h ok more so =
      let rest = candidates test (i + 1 + 1) (drop (i + 1) plan) in
      let here = as_candidate (i + 1) (get_or plan i []) in
      ap (λ l. l ++ rest) more ∙ append_assoc found (here ∷ []) rest
      ∙ ap (λ l. found ++ l) (sym (at_drop_more (candidates test (i + 1)) plan i [] h ∙ ap (λ (b : Bool). cond b (here ∷ rest) rest) ok))
      ∙ so

  pub candidates_pass :
      (found total : List Candidate) → i < length plan → test (i + 1) (get_or plan i []) ≡ false →
      found ++ candidates test (i + 1) (drop i plan) ≡ total → found ++ candidates test (i + 1 + 1) (drop (i + 1) plan) ≡ total
  candidates_pass found total h ok so =
      let rest = candidates test (i + 1 + 1) (drop (i + 1) plan) in
      let here = as_candidate (i + 1) (get_or plan i []) in
      ap (λ l. found ++ l) (sym (at_drop_more (candidates test (i + 1)) plan i [] h ∙ ap (λ (b : Bool). cond b (here ∷ rest) rest) ok))
      ∙ so

  pub candidates_all :
      (found total : List Candidate) → length plan ≤ i → found ++ candidates test (i + 1) (drop i plan) ≡ total → found ≡ total
  candidates_all found total h so =
      sym (append-nil found) ∙ ap (λ l. found ++ l) (sym (at_drop_all (candidates test (i + 1)) plan i h)) ∙ so
