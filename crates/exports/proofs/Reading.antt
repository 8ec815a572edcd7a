-- One more row read. Assumes nothing.
use Rattle.std.proofs.Common.{◌≡◌, ℕ, ◌+◌, ◌<◌, List, [], ◌∷◌, ◌++◌, map, length, get_or, take, drop, sym, refl, ap, ◌∙◌, arith, length-take-le}
use Rattle.std.proofs.lemmas.List.{take_more, map_push, at_drop_more, length-map}
use Rattle.model.specs.Limits.{timing_fault}
use Rattle.model.specs.Refusal.{request_number}
use Rattle.model.specs.declared.timing.Timing.{Timing}
use Rattle.exports.specs.declared.numbers.Numbers.{Numbers}
use Rattle.exports.specs.Judging.{numbers, numbered, or_later, rows_fault}

-- the numbers of a timing, one by one
pub numbers_same : (t : Timing) (x : Numbers) → t.budget ≡ x.budget → t.deadline ≡ x.deadline → t.period ≡ x.period → numbers t ≡ x
numbers_same t x b d p = rw (b, d, p) refl

module _ (rows : List Numbers) (i : ℕ) (none : Numbers) (h : i < length rows) where
  -- what is left has the fault of its first row, if that has one
  pub fault_at :
      rows_fault (drop i rows)
      ≡ or_later (numbered request_number (timing_fault (get_or rows i none).budget (get_or rows i none).deadline (get_or rows i none).period))
      (rows_fault (drop (i + 1) rows))
  fault_at = at_drop_more rows_fault rows i none h

  -- as many as were looked at
  pub read_count : (l : List Timing) → map numbers l ≡ take i rows → length l ≡ i
  read_count l so_far = sym (length-map l numbers) ∙ ap length so_far ∙ length-take-le i rows (omega (arith, h))

  -- a row that breaks no limit joins those read so far
  pub read_more :
      (before after : List Timing) (t : Timing) → map numbers before ≡ take i rows → after ≡ before ++ (t ∷ []) → numbers t ≡ get_or rows i none →
      map numbers after ≡ take (i + 1) rows
  read_more before after t so_far pushed same =
      ap (map numbers) pushed ∙ map_push numbers before t ∙ ap (λ l. l ++ (numbers t ∷ [])) so_far
      ∙ ap (λ y. take i rows ++ (y ∷ [])) same ∙ sym (take_more rows i none h)
