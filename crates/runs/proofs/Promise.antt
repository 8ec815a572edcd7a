-- From each processor to the board. Assumes nothing.
use Rattle.std.proofs.Common.{◌≡◌, ℕ, zero, suc, ◌+◌, ◌<◌, ◌≤◌, List, [], ◌∷◌, map, length, get_or, Some, ap, ◌∙◌, subst, ⊎_elim, arith}
use Rattle.std.specs.List.{AllByRecursion, slice_get}
use Rattle.std.proofs.ByRecursion.{All-weaker}
use Rattle.model.specs.declared.row.Row.{Row}
use Rattle.model.specs.Row.{part, timings}
use Rattle.runs.specs.Pieces.{Stream, row}
use Rattle.runs.specs.Run.{Slot, served, InTime}
use Rattle.runs.specs.Streams.{StreamOf, StreamsOf, none, more}
use Rattle.runs.specs.Processor.{DemandFits}
use Rattle.runs.specs.Plan.{Reservation, span, offset, Pattern, release, pieces, work}
use Rattle.runs.specs.Board.{RowOf, Owned, Tight, AddsUp, PlanFor, Apart, Legal, BoardRun, GetsBudget, BoardNeverLate}
use Rattle.runs.proofs.Service.{served_le, served_need}
use Rattle.runs.proofs.Timely.{every_piece_in_time}
use Rattle.runs.proofs.Totals.{Rows, total_same}
use Rattle.runs.proofs.Offsets.{due_all}

all_nth : {X : Type 0} (P : X → Type 0) (l : List X) (i : ℕ) (x : X) → slice_get l i ≡ Some x → AllByRecursion P l → P x
all_nth P [] i x e h = let z : ◌≡◌ {A = ℕ} 0 1 = cc in absurd (omega arith)
all_nth P (y ∷ l) zero x e h = let s : y ≡ x = cc in subst P s h.0
all_nth P (y ∷ l) (suc i) x e h = all_nth P l i x e h.1

getD_nth : {X : Type 0} (l : List X) (i : ℕ) (x d : X) → slice_get l i ≡ Some x → get_or l i d ≡ x
getD_nth [] i x d e = let z : ◌≡◌ {A = ℕ} 0 1 = cc in absurd (omega arith)
getD_nth (y ∷ l) zero x d e = cc
getD_nth (y ∷ l) (suc i) x d e = getD_nth l i x d e

row_nth : (f : Row → Stream) (rows : List Row) (i : ℕ) (r : Row) → slice_get rows i ≡ Some r → row (map f rows) i ≡ f r
row_nth f [] i r e = let z : ◌≡◌ {A = ℕ} 0 1 = cc in absurd (omega arith)
row_nth f (y ∷ rows) zero r e = let s : y ≡ r = cc in ap f s
row_nth f (y ∷ rows) (suc i) r e = row_nth f rows i r e

pub apart_at : (T : ℕ) (l : List ℕ) → Apart T l → (k : ℕ) → suc k < length l → get_or l k 0 + T ≤ get_or l (suc k) 0
apart_at T [] h k b = omega arith
apart_at T (a ∷ []) h k b = omega arith
apart_at T (a ∷ (b ∷ l)) h zero c = h.0
apart_at T (a ∷ (b ∷ l)) h (suc k) c = apart_at T (b ∷ l) h.1 k (omega arith)

-- the releases of a row's key are its period apart
owned_apart : (pattern : Pattern) (r : Row) (l : List Reservation) → Owned l r → Legal l pattern → Apart r.timing.period (pattern r.key)
owned_apart pattern r [] own legal = absurd own
owned_apart pattern r (x ∷ l) own legal = ⊎_elim
    (λ (e : RowOf x r). rw (e.0, e.1) at legal.0)
    (λ (rest : Owned l r). owned_apart pattern r l rest legal.1)
    own

module _ (accepted : List Reservation) (plan : List (List Row)) (pattern : Pattern) (legal : Legal accepted pattern) where
  -- a row's pieces are a stream of its timing
  row_stream : (r : Row) → Owned accepted r → Tight r → StreamOf r.timing (pieces plan pattern r)
  row_stream r own tight = record {
    apart = λ k b. omega (arith, spaced k b);
    due = λ k b. ap (λ n. release pattern r.key k + offset plan r.key (part r.kind) + n) tight;
    need = λ k b. omega arith;
  }
    where
      spaced : (k : ℕ) → suc k < length (pattern r.key) → release pattern r.key k + r.timing.period ≤ release pattern r.key (suc k)
      spaced k b = apart_at r.timing.period (pattern r.key) (owned_apart pattern r accepted own legal) k b

  streams : (rows : List Row) → AllByRecursion (Owned accepted) rows → AllByRecursion Tight rows → StreamsOf (timings rows) (map (pieces plan pattern) rows)
  streams [] own tight = none
  streams (r ∷ rows) own tight = more (row_stream r own.0 tight.0) (streams rows own.1 tight.1)

-- the pieces of a row of the plan stand in its processor's work
pub work_row : (plan : List (List Row)) (pattern : Pattern) (p i : ℕ) (rows : List Row) (r : Row) → slice_get plan p ≡ Some rows → slice_get rows i ≡ Some r →
    row (work plan pattern p) i ≡ pieces plan pattern r
work_row plan pattern p i rows r e e' = rw (getD_nth plan p rows [] e) (row_nth (pieces plan pattern) rows i r e')

module _ (accepted : List Reservation) (plan : List (List Row)) (stands : PlanFor accepted plan) (fits : AllByRecursion (λ rows. DemandFits (timings rows)) plan)
    (pattern : Pattern) (legal : Legal accepted pattern) (run : ℕ → ℕ → Slot) (rule : BoardRun plan pattern run) where
  pub in_time : (p i : ℕ) (rows : List Row) (r : Row) → slice_get plan p ≡ Some rows → slice_get rows i ≡ Some r →
      (k : ℕ) → k < length (pattern r.key) → InTime (work plan pattern p) (run p) i k
  in_time p i rows r e e' k b =
      let at = getD_nth plan p rows [] e in
      every_piece_in_time (timings (get_or plan p []))
      (rw at (all_nth (λ rows. DemandFits (timings rows)) plan p rows e fits))
      (work plan pattern p)
      (streams accepted plan pattern legal (get_or plan p [])
      (rw at (all_nth (AllByRecursion (Owned accepted)) plan p rows e stands.owned)) (rw at (all_nth (AllByRecursion Tight) plan p rows e stands.tight)))
      (run p) 0 (record { before = λ t l. absurd (none_below t l); starts = λ j m l. omega arith })
      i k (rw (work_row plan pattern p i rows r e e') b) (λ t l l'. rule p t)
    where
      none_below : (t : ℕ) → t < 0 → ⊥
      none_below t l = omega arith

  -- each row has had exactly its budget when all parts are due
  row_service : (x : Reservation) → AddsUp plan x → (k : ℕ) → k < length (pattern x.key) →
      Rows x.key plan (λ p i r. served (run p) i k (release pattern x.key k + x.deadline) ≡ r.timing.budget)
  row_service x sums k b p i rows r e e' own =
      let is = work_row plan pattern p i rows r e e' in
      let least : r.timing.budget ≤ served (run p) i k (release pattern r.key k + offset plan r.key (part r.kind) + span r) =
      rw is at (in_time p i rows r e e' k (rw own b)) in
      let most : served (run p) i k (release pattern x.key k + x.deadline) ≤ r.timing.budget =
      rw is at (served_need (work plan pattern p) (run p) i k (release pattern x.key k + x.deadline) (λ u l. rule p u)) in
      let by : release pattern r.key k + offset plan r.key (part r.kind) + span r ≤ release pattern x.key k + x.deadline =
      rw own (omega (arith, due_all plan x.key p i rows r e e' own, sums.deadline)) in
      omega (arith, least, most, served_le (run p) i k (release pattern r.key k + offset plan r.key (part r.kind) + span r) (release pattern x.key k + x.deadline) by)

  pub gets_budget : (x : Reservation) → AddsUp plan x → (k : ℕ) → k < length (pattern x.key) → GetsBudget plan pattern run x k
  gets_budget x sums k b = record {
    in_time = λ p i rows r e e' own. in_time p i rows r e e' k (rw own b);
    service = total_same x.key plan (λ p i r. served (run p) i k (release pattern x.key k + x.deadline)) (λ p i r. r.timing.budget)
        (row_service x sums k b) ∙ sums.budget;
  }

pub board_never_late : BoardNeverLate
board_never_late accepted plan stands fits pattern legal run rule =
    All-weaker (AddsUp plan) (λ x. (k : ℕ) → k < length (pattern x.key) → GetsBudget plan pattern run x k)
    (gets_budget accepted plan stands fits pattern legal run rule) accepted stands.sums
