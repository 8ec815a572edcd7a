-- Writing rows, one after the other. Assumes nothing.
use Rattle.std.proofs.Common.{◌≡◌, ℕ, ◌+◌, ◌-◌, ◌<◌, List, [], ◌∷◌, ◌++◌, map, length, get_or, drop, set, sym, ap, ◌∙◌, subst}
use Rattle.std.proofs.lemmas.List.{map-set}
use Rattle.model.specs.declared.row.Row.{Row}
use Rattle.processor.specs.declared.rows.Processor.{Processor}
use Rattle.board.specs.declared.admission.Placed.{Placed}
use Rattle.processor.specs.Rows.{rows_of}
use Rattle.board.specs.Plan.{append}
use Rattle.board.specs.Admit.{written, Room}
use Rattle.processor.proofs.Places.{read_map}
use Rattle.processor.proofs.Steps.{step}

-- a row more on one processor is a row more in the plan
pub appended :
    (items : List Processor) (i : ℕ) (old new : Processor) (row : Row) → i < length items → old ≡ get_or items i old →
    rows_of new ≡ rows_of old ++ (row ∷ []) → map rows_of (set items i new) ≡ append i row (map rows_of items)
appended items i old new row h here more =
    map-set rows_of items i new
    ∙ ap (set (map rows_of items) i) (more ∙ ap (λ l. l ++ (row ∷ [])) (read_map rows_of items i old [] h here))

module _ (plan : List (List Row)) (rows : List Placed) (i : ℕ) (p : Placed) (h : i < length rows) (here : p ≡ get_or rows i p) where
  -- the room for what is left is room for the next row, and then for the others
  pub room_here : Room plan (drop i rows) → Room plan (p ∷ drop (i + 1) rows)
  room_here = subst (Room plan) (step (λ l. l) rows i p h here)

  pub room_after :
      (next : List (List Row)) → next ≡ append (p.processor - 1) p.row plan → Room plan (drop i rows) → Room next (drop (i + 1) rows)
  room_after next e room = subst (λ q. Room q (drop (i + 1) rows)) (sym e) (room_here room).3

  pub written_more :
      (next total : List (List Row)) → next ≡ append (p.processor - 1) p.row plan → written plan (drop i rows) ≡ total →
      written next (drop (i + 1) rows) ≡ total
  written_more next total e so =
      ap (λ q. written q (drop (i + 1) rows)) e ∙ sym (step (written plan) rows i p h here) ∙ so
