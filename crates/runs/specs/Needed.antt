-- Each condition of the promises is needed: leave one out, keep the others, and some run is late. Assumes nothing.
use Rattle.std.specs.Prelude.{◌≡◌, ℕ, ◌+◌, ◌<◌, ◌≤◌, cond, List, [], ◌∷◌, length, Some, ◌==◌, ◌≢◌}
use Rattle.std.specs.List.{AllByRecursion, slice_get}
use Rattle.model.specs.declared.timing.Timing.{Timing}
use Rattle.model.specs.declared.row.Kind.{Kind}
use Rattle.model.specs.declared.row.Row.{Row}
use Rattle.model.specs.Row.{timings}
use Rattle.model.specs.Demand.{demand}
use Rattle.runs.specs.Pieces.{Stream, row}
use Rattle.runs.specs.Run.{Slot, idle, serves, served, Waits, EarliestDeadline, InTime}
use Rattle.runs.specs.Streams.{StreamOf, StreamsOf}
use Rattle.runs.specs.Processor.{DemandFits}
use Rattle.runs.specs.Plan.{Reservation, total, span, Pattern, release}
use Rattle.runs.specs.Board.{RowOf, Owned, Tight, AddsUp, PlanFor, Legal, BoardRun, OneAtATime}

-- some piece is late: at its due tick it lacks service
pub record Late (work : List Stream) (run : ℕ → Slot) : Type 0 where
  pub i : ℕ
  pub k : ℕ
  pub real : k < (row work i).turns
  pub lacks : served run i k ((row work i).due k) < (row work i).need k

-- the demand, however little it is over: there are streams of which every run, by whatever rule, leaves a piece late
abbrev pub DemandNeeded : Type 0
DemandNeeded = (l : List Timing) (t : ℕ) → t < demand l t → (work : List Stream) × StreamsOf l work × ((run : ℕ → Slot) → Late work run)

-- the period: the starts of x are one tick too close, as if it were y
pub record StartsClose : Type 0 where
  pub x : Timing
  pub rest : List Timing
  pub fits : DemandFits (x ∷ rest)
  pub y : Timing
  pub same_budget : y.budget ≡ x.budget
  pub same_deadline : y.deadline ≡ x.deadline
  pub shorter_period : y.period + 1 ≡ x.period
  pub work : List Stream
  pub streams : StreamsOf (y ∷ rest) work
  pub run : ℕ → Slot
  pub rule : (t : ℕ) → EarliestDeadline work run t
  pub late : Late work run

-- a stream whose piece of turn m starts, and is due, a tick later
abbrev pub later : ℕ → Stream → Stream
later m σ = record {
  turns = σ.turns;
  start = λ k. σ.start k + cond (k == m) 1 0;
  due = λ k. σ.due k + cond (k == m) 1 0;
  need = σ.need;
}

-- a tail's place: one of its pieces starts, and is due, a tick early
pub record TailEarly : Type 0 where
  pub x : Timing
  pub tail : x.budget ≡ x.deadline
  pub rest : List Timing
  pub fits : DemandFits (x ∷ rest)
  pub σ : Stream
  pub m : ℕ
  pub but_one : StreamOf x (later m σ)
  pub others : List Stream
  pub streams : StreamsOf rest others
  pub run : ℕ → Slot
  pub rule : (t : ℕ) → EarliestDeadline (σ ∷ others) run t
  pub late : Late (σ ∷ others) run

-- never idle while something waits: the rule is kept from tick 1 on, and tick 0 is idle while a piece waits
pub record IdleTick : Type 0 where
  pub l : List Timing
  pub fits : DemandFits l
  pub work : List Stream
  pub streams : StreamsOf l work
  pub run : ℕ → Slot
  pub first : run 0 ≡ idle
  pub i : ℕ
  pub k : ℕ
  pub waits : Waits work run 0 i k
  pub rule : (t : ℕ) → 0 < t → EarliestDeadline work run t
  pub late : Late work run

-- the earliest deadline first: the rule is kept from tick 1 on, and tick 0 serves a piece that waits; were it the
-- earliest, nothing would be late
pub record LaterFirst : Type 0 where
  pub l : List Timing
  pub fits : DemandFits l
  pub work : List Stream
  pub streams : StreamsOf l work
  pub run : ℕ → Slot
  pub i : ℕ
  pub k : ℕ
  pub first : run 0 ≡ serves i k
  pub waits : Waits work run 0 i k
  pub rule : (t : ℕ) → 0 < t → EarliestDeadline work run t
  pub late : Late work run

-- Streams that may start earlier, and are due as before.
pub data Earlier : List Stream → List Stream → Type 0 where
  none : Earlier [] []
  more : {σ τ : Stream} {work plain : List Stream} → σ.turns ≡ τ.turns → σ.due ≡ τ.due → σ.need ≡ τ.need →
      ((k : ℕ) → k < σ.turns → σ.start k ≤ τ.start k) → Earlier work plain → Earlier (σ ∷ work) (τ ∷ plain)

-- What is not needed: an early start alone makes nothing late. It is the early due tick that does.
abbrev pub EarlyStartsInTime : Type 0
EarlyStartsInTime =
    (l : List Timing) → DemandFits l → (plain : List Stream) → StreamsOf l plain → (work : List Stream) → Earlier work plain →
    (run : ℕ → Slot) → ((t : ℕ) → EarliestDeadline work run t) →
    (i k : ℕ) → k < (row work i).turns → InTime work run i k

-- some instance is late: in a run of a legal pattern it lacks budget at its deadline
pub record LateInstance (accepted : List Reservation) (plan : List (List Row)) : Type 0 where
  pub n : ℕ
  pub x : Reservation
  pub among : slice_get accepted n ≡ Some x
  pub pattern : Pattern
  pub legal : Legal accepted pattern
  pub k : ℕ
  pub released : k < length (pattern x.key)
  pub run : ℕ → ℕ → Slot
  pub rule : BoardRun plan pattern run
  pub lacks : total (λ p i r. served (run p) i k (release pattern x.key k + x.deadline)) x.key plan < x.budget

-- the head's deadline: a head keeps the whole deadline of its reservation, so that its tail comes too late
pub record HeadKeepsDeadline : Type 0 where
  pub x : Reservation
  pub head : Row
  pub tail : Row
  pub is_head : head.kind ≡ Kind.Head
  pub is_tail : tail.kind ≡ Kind.Tail 1
  pub head_of : RowOf x head
  pub tail_of : RowOf x tail
  pub tight : Tight tail
  pub budget : head.timing.budget + tail.timing.budget ≡ x.budget
  pub kept : head.timing.deadline ≡ x.deadline
  pub head_fits : DemandFits (head.timing ∷ [])
  pub tail_fits : DemandFits (tail.timing ∷ [])
  pub late : LateInstance (x ∷ []) ((head ∷ []) ∷ ((tail ∷ []) ∷ []))

-- a tail without slack: a tail's deadline is a tick longer than its budget, within which its piece is due
pub record TailWithSlack : Type 0 where
  pub accepted : List Reservation
  pub plan : List (List Row)
  pub owned : AllByRecursion (AllByRecursion (Owned accepted)) plan
  pub slack : AllByRecursion (AllByRecursion (λ r. r.timing.deadline ≤ span r + 1)) plan
  pub sums : AllByRecursion (AddsUp plan) accepted
  pub fits : AllByRecursion (λ rows. DemandFits (timings rows)) plan
  pub late : LateInstance accepted plan

-- an owner of each row: one key is nobody's, so that no legal pattern keeps its releases apart
pub record StrayRow : Type 0 where
  pub accepted : List Reservation
  pub plan : List (List Row)
  pub stray : ℕ
  pub owned : AllByRecursion (AllByRecursion (λ r. (r.key ≢ stray) → Owned accepted r)) plan
  pub tight : AllByRecursion (AllByRecursion Tight) plan
  pub sums : AllByRecursion (AddsUp plan) accepted
  pub fits : AllByRecursion (λ rows. DemandFits (timings rows)) plan
  pub late : LateInstance accepted plan

-- each part once: with a part that stands twice, two processors serve an instance in the same tick
pub record PartTwice : Type 0 where
  pub accepted : List Reservation
  pub plan : List (List Row)
  pub stands : PlanFor accepted plan
  pub fits : AllByRecursion (λ rows. DemandFits (timings rows)) plan
  pub pattern : Pattern
  pub legal : Legal accepted pattern
  pub run : ℕ → ℕ → Slot
  pub rule : BoardRun plan pattern run
  pub twice : OneAtATime plan run → ⊥
