-- A list of timings, taken one after another. Assumes nothing.
use Rattle.std.proofs.Common.{◌≡◌, ℕ, ◌+◌, ◌<◌, List, ◌∷◌, length, get_or, drop, sym, ap, ◌∙◌}
use Rattle.std.proofs.lemmas.List.{at_drop_more}
use Rattle.model.specs.declared.timing.Timing.{Timing}

-- at index i stands x: what is left from i on is x and what is left after it
pub left_more : {A : Type 0} (F : List Timing → A) (l : List Timing) (i : ℕ) (x : Timing) → i < length l → x ≡ get_or l i x → F (drop i l) ≡ F (x ∷ drop (i + 1) l)
left_more F l i x h at = at_drop_more F l i x h ∙ ap (λ y. F (y ∷ drop (i + 1) l)) (sym at)
