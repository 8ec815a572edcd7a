-- One step of a loop that looks for a candidate or leaves a reservation out, what is left of a list, and what has room. Assumes nothing.
use Rattle.std.proofs.Common.{◌≡◌, ℕ, ◌+◌, ◌<◌, ◌≤◌, Bool, true, false, cond, not, List, [], ◌∷◌, ◌++◌, length, get_or, take, drop, Some, Option, sym, refl, ap, ◌∙◌, arith}
use Rattle.std.proofs.lemmas.List.{map-append, append-nil, length-map, length_push}
use Rattle.std.proofs.lemmas.List.Elements.{filter_more}
use Rattle.std.proofs.lemmas.List.Filters.{length-filter_both}
use Rattle.model.specs.declared.timing.Timing.{Timing}
use Rattle.model.specs.declared.row.Row.{Row}
use Rattle.model.specs.Row.{is_tail, is_head, timings}
use Rattle.processor.specs.Keys.{is_of}
use Rattle.processor.specs.Gathering.{tail_among, over, heaviest, other, others}
use Rattle.processor.proofs.Steps.{step}

module _ (rows : List Row) (i : ℕ) (x : Row) (h : i < length rows) (here : x ≡ get_or rows i x) where
  pub tail_step : (b : Bool) → is_tail x.kind ≡ b → tail_among (drop i rows) ≡ cond b (Some x) (tail_among (drop (i + 1) rows))
  tail_step b e = step tail_among rows i x h here ∙ ap (λ v. cond v (Some x) (tail_among (drop (i + 1) rows))) e

  pub head_step : (held : Option Row) (b : Bool) → is_head x.kind ≡ b →
      heaviest held (drop i rows) ≡ heaviest (cond b (over held x) held) (drop (i + 1) rows)
  head_step held b e =
      step (heaviest held) rows i x h here ∙ ap (λ v. heaviest (cond v (over held x) held) (drop (i + 1) rows)) e

  left_step : (key : ℕ) (b : Bool) → other key x ≡ b →
      timings (others key (take (i + 1) rows)) ≡ timings (others key (take i rows)) ++ timings (cond b (x ∷ []) [])
  left_step key b e =
      ap timings (filter_more (other key) rows i x h
      ∙ ap (λ y. others key (take i rows) ++ cond (other key y) (y ∷ []) []) (sym here)
      ∙ ap (λ v. others key (take i rows) ++ cond v (x ∷ []) []) e)
      ∙ map-append (λ r. r.timing) (others key (take i rows)) (cond b (x ∷ []) [])

  pub left_more : (key : ℕ) → is_of key x ≡ false →
      timings (others key (take (i + 1) rows)) ≡ timings (others key (take i rows)) ++ (x.timing ∷ [])
  left_more key e = left_step key true (ap not e)

  pub left_same : (key : ℕ) → is_of key x ≡ true → timings (others key (take (i + 1) rows)) ≡ timings (others key (take i rows))
  left_same key e = left_step key false (ap not e) ∙ append-nil (timings (others key (take i rows)))

-- what is left of a list is no longer
pub few_left : (key : ℕ) (rows : List Row) → length (timings (others key rows)) ≤ length rows
few_left key rows =
    omega (arith, length-map (others key rows) (λ r. r.timing), length-filter_both (other key) (λ r. not (other key r)) (λ _. refl) rows)

-- a judge's yes to a list with one more says that there is room for one more
pub room_left : (rows : List Row) (x : Timing) → length (timings rows ++ (x ∷ [])) ≤ 32 → length rows < 32
room_left rows x h = omega (arith, length_push (timings rows) x, length-map rows (λ r. r.timing))
