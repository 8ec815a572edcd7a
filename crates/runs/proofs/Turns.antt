-- The parts of an instance are served one after the other. Assumes nothing.
use Rattle.std.proofs.Common.{◌≡◌, ℕ, ◌+◌, ◌<◌, ◌≤◌, cond, eqb, List, length, Some, sym, refl, ⊎_elim, arith}
use Rattle.std.specs.List.{AllByRecursion, slice_get}
use Rattle.std.proofs.lemmas.Bool.{eq-eqb, cases_order, cases_lt}
use Rattle.model.specs.declared.row.Row.{Row}
use Rattle.model.specs.Row.{part, timings}
use Rattle.runs.specs.Run.{Slot, serves, served}
use Rattle.runs.specs.Processor.{DemandFits}
use Rattle.runs.specs.Plan.{Reservation, span, offset, Pattern, release}
use Rattle.runs.specs.Board.{PlanFor, Legal, BoardRun, PartsOnce, BoardOneAtATime}
use Rattle.runs.proofs.Service.{served_le}
use Rattle.runs.proofs.Totals.{total_two}
use Rattle.runs.proofs.Offsets.{due_before}
use Rattle.runs.proofs.Promise.{work_row, in_time}

-- two rows of one part are one row
same_part : (plan : List (List Row)) → PartsOnce plan → (p i q j : ℕ) (rows rows' : List Row) (r r' : Row) →
    slice_get plan p ≡ Some rows → slice_get rows i ≡ Some r → slice_get plan q ≡ Some rows' → slice_get rows' j ≡ Some r' →
    r.key ≡ r'.key → part r.kind ≡ part r'.kind → p < q → ⊥
same_part plan once p i q j rows rows' r r' e d e' d' same parts b =
    let one = eq-eqb (part r.kind) (part r'.kind) parts in
    let self = eq-eqb (part r'.kind) (part r'.kind) refl in
    let two = total_two r'.key plan (λ p i x. cond (eqb (part x.kind) (part r'.kind)) 1 0) p i q j rows rows' r r' b e d same e' d' refl in
    omega (arith, rw (one, self) at two, once r'.key (part r'.kind))

module _ (accepted : List Reservation) (plan : List (List Row)) (stands : PlanFor accepted plan) (fits : AllByRecursion (λ rows. DemandFits (timings rows)) plan)
    (pattern : Pattern) (legal : Legal accepted pattern) (run : ℕ → ℕ → Slot) (rule : BoardRun plan pattern run) where
  -- what is served has started, and is not yet due
  record Open (r : Row) (k t : ℕ) : Type 0 where
    started : release pattern r.key k + offset plan r.key (part r.kind) ≤ t
    ahead : t < release pattern r.key k + offset plan r.key (part r.kind) + span r

  open_when_served : (t k p i : ℕ) (rows : List Row) (r : Row) → slice_get plan p ≡ Some rows → slice_get rows i ≡ Some r → run p t ≡ serves i k → Open r k t
  open_when_served t k p i rows r e d s =
      let is = work_row plan pattern p i rows r e d in
      let waits = (rule p t).waiting i k s in
      let real : k < length (pattern r.key) = rw is at waits.real in
      let lacks : served (run p) i k t < r.timing.budget = rw is at waits.lacks in
      let due = release pattern r.key k + offset plan r.key (part r.kind) + span r in
      let enough : r.timing.budget ≤ served (run p) i k due = rw is at (in_time accepted plan stands fits pattern legal run rule p i rows r e d k real) in
      record {
        started = rw is at waits.started;
        ahead = ⊎_elim (λ (l : t < due). l) (λ (l : due ≤ t). absurd (over lacks enough (served_le (run p) i k due t l))) (cases_lt t due);
      }
    where
      over : {a b c : ℕ} → a < b → b ≤ c → c ≤ a → ⊥
      over p q r = omega arith

  -- of two rows of a key that are served in one tick, none has an earlier part
  no_earlier : (t k p i : ℕ) (rows : List Row) (r r' : Row) → slice_get plan p ≡ Some rows → slice_get rows i ≡ Some r → r.key ≡ r'.key →
      Open r k t → Open r' k t → part r.kind < part r'.kind → ⊥
  no_earlier t k p i rows r r' e d same o o' l =
      omega (arith, rw same at o.ahead, o'.started, due_before plan r'.key (part r'.kind) p i rows r e d same l)

pub board_one_at_a_time : BoardOneAtATime
board_one_at_a_time accepted plan stands fits once pattern legal run rule t k p i q j rows rows' r r' e d s e' d' s' same =
    let o = open_when_served accepted plan stands fits pattern legal run rule t k p i rows r e d s in
    let o' = open_when_served accepted plan stands fits pattern legal run rule t k q j rows' r' e' d' s' in
    ⊎_elim
    (λ (parts : part r.kind ≡ part r'.kind). ⊎_elim (λ (l : p ≡ q). l)
    (⊎_elim
    (λ (l : p < q). absurd (same_part plan once p i q j rows rows' r r' e d e' d' same parts l))
    (λ (l : q < p). absurd (same_part plan once q j p i rows' rows r' r e' d' e d (sym same) (sym parts) l)))
    (cases_order p q))
    (⊎_elim
    (λ (l : part r.kind < part r'.kind). absurd (no_earlier accepted plan stands fits pattern legal run rule t k p i rows r r' e d same o o' l))
    (λ (l : part r'.kind < part r.kind). absurd (no_earlier accepted plan stands fits pattern legal run rule t k q j rows' r' r e' d' (sym same) o' o l)))
    (cases_order (part r.kind) (part r'.kind))
