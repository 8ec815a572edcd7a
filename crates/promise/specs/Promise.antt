-- The promise. Assumes nothing.
use Rattle.std.specs.Prelude.{◌≡◌, ℕ, suc, ◌<◌, ◌≤◌, Bool, true, false, List, [], ◌∷◌, ◌++◌, length, replicate, ℤ, Some, Ok, Err, vec_items, vec_capacity, Result}
use Rattle.model.specs.declared.timing.Timing.{Timing}
use Rattle.model.specs.declared.row.Kind.{Kind}
use Rattle.model.specs.declared.fault.SetupFault.{SetupFault}
use Rattle.model.specs.declared.fault.RequestFault.{RequestFault}
use Rattle.model.specs.Scale.{scale}
use Rattle.model.specs.Share.{densities}
use Rattle.model.specs.Row.{timings}
use Rattle.runs.specs.Board.{NeverLate}
use Rattle.board.specs.declared.setup.SetupError.{SetupError}
use Rattle.board.specs.Plan.{plan}
use Rattle.board.specs.Setup.{unfit}
use Rattle.board.specs.Look.{looked}
use Rattle.std.specs.List.{slice_get}
use Rattle.model.specs.declared.row.Row.{Row}
use Rattle.board.specs.Split.{placed}
use Rattle.board.specs.Admit.{told}
use Rattle.promise.specs.declared.call.Call.{Call}
use Rattle.promise.specs.declared.call.Answer.{Answer}
use Rattle.promise.specs.declared.history.Outcome.{Outcome}
use Rattle.promise.specs.Meaning.{Meaning}
use Rattle.promise.specs.Plan.{Plan, On}
use Rattle.promise.specs.Choosing.{rows_at, FirstTaker}
use Rattle.promise.specs.Kept.{Kept}
use Rattle.promise.specs.Saved.{LoadsAgain}
use Rattle.promise.specs.History.{History, begins, goes_on, accepted_after}

-- 'no place' means: on the plan before, every processor with a free row would stand above density one with the newcomer x whole on it
abbrev pub NoPlace : Plan → Call → Answer → Type 0
NoPlace plan (Call.Admit w) (Answer.Admitted r) =
    told r ≡ Err RequestFault.NoPlace → (x : Timing) → x.budget ≡ w.budget → x.deadline ≡ w.deadline → x.period ≡ w.period →
    (p : ℕ) → On plan p → length (rows_at plan p) < 32 → scale < densities scale (timings (rows_at plan p) ++ (x ∷ []))
NoPlace plan (Call.Admit w) (Answer.Withdrawn r) = Unit {0}
NoPlace plan (Call.Admit w) (Answer.Loaded r) = Unit {0}
NoPlace plan (Call.Withdraw k) answer = Unit {0}
NoPlace plan (Call.Load image) answer = Unit {0}

-- a reservation admitted whole has the numbers asked for, and stands on the processor that the placement rule puts first among those that can take it, on the plan before
abbrev pub FirstInRank : {R : Type 0} → Meaning R → Plan → Call → Answer → Type 0
FirstInRank m plan (Call.Admit w) (Answer.Admitted r) =
    (p : ℕ) (x : Timing) → told r ≡ Ok (placed w.key p Kind.Whole x ∷ []) →
    ((x.budget ≡ w.budget) × (x.deadline ≡ w.deadline) × (x.period ≡ w.period)) × FirstTaker m.before m.rank m.accepts plan [] x p
FirstInRank m plan (Call.Admit w) (Answer.Withdrawn r) = Unit {0}
FirstInRank m plan (Call.Admit w) (Answer.Loaded r) = Unit {0}
FirstInRank m plan (Call.Withdraw k) answer = Unit {0}
FirstInRank m plan (Call.Load image) answer = Unit {0}

-- at every step of a history
abbrev pub Along : {R : Type 0} {m : Meaning R} {from to : Plan} {calls : List Call} {answers : List Answer}
    → (Plan → Call → Answer → Type 0) → History m from calls answers to → Type 0
Along P begins = Unit {0}
Along P (goes_on {plan = before} {call = call} {answer = answer} derived rest) = P before call answer × Along P rest

-- look shows a plan: the row at each place, processors and positions counted from 1
abbrev pub Shown : Plan → Type 0
Shown rows-of-all = (p i : ℕ) (rows : List Row) (row : Row) → slice_get rows-of-all p ≡ Some rows → slice_get rows i ≡ Some row → looked rows-of-all (suc p) (suc i) ≡ Ok row

-- what is promised of the answers to a list of calls on an empty board of n processors, and of the plan that they leave
pub record Promised {R : Type 0} (m : Meaning R) (n : ℕ) (calls : List Call) (answers : List Answer) (last : Plan) : Type 0 where
  -- each answer and each plan follows from the call and the plan before, by the rules
  pub history : History m (replicate n []) calls answers last
  -- whenever the accepted reservations are released, a period or more apart, in every earliest-deadline run no instance is late
  pub never_late : NeverLate (accepted_after [] calls answers) last
  -- whenever there was no place, every processor with a free row would have stood above density one
  pub no_place : Along NoPlace history
  -- whoever was admitted whole stands on the processor that came first in rank
  pub first_in_rank : Along (FirstInRank m) history
  -- each accepted reservation stands as one whole row, or as a head and its tails on different processors, no other row stands, and the judge accepts every list
  pub kept : Kept m last (accepted_after [] calls answers)
  -- the image that save writes of the plan loads as that plan on every board of as many processors with this judge
  pub stored : LoadsAgain m last
  -- look shows the plan
  pub shown : Shown last

-- a judge's and a rule's meaning in one
abbrev pub meant : {R : Type 0} → (R → R → Bool) → (ℕ → ℤ → ℕ → R) → (List Timing → Bool) → (List Timing → ℕ → ℕ → ℕ) → Meaning R
meant before rank accepts allows = record { accepts = accepts; allows = allows; rank = rank; before = before }

-- of every history from set-up on all of this holds, whoever makes its calls
abbrev pub EveryHistory : {R : Type 0} → Meaning R → Type 0
EveryHistory m = (n : ℕ) (calls : List Call) (answers : List Answer) (last : Plan) → unfit n ≡ false →
    History m (replicate n []) calls answers last → Promised m n calls answers last

-- an empty board with this judge and this rule, no answers yet, and room for so many; or set-up's refusal; or want of memory
abbrev pub Begun : {J P : Type 0} → ℕ → J → P → ℕ → Result (Outcome J P) SetupError → Type 0
Begun n judge rule room (Ok o) =
    (unfit n ≡ false) × (plan o.board ≡ replicate n []) × (o.board.judge ≡ judge) × (o.board.rule ≡ rule)
    × (vec_items o.answers ≡ []) × (room ≤ vec_capacity o.answers)
Begun n judge rule room (Err (SetupError.Refused fault)) = (unfit n ≡ true) × (fault ≡ SetupFault.Processors)
Begun n judge rule room (Err SetupError.Memory) = unfit n ≡ false

-- a run of calls from set-up on: the board and the answers, of which all is promised, with the judge and the rule as given, and look shows its plan; or
-- set-up's refusal; or want of memory before the first call
abbrev pub Ran : {R J P : Type 0} → Meaning R → ℕ → J → P → List Call → Result (Outcome J P) SetupError → Type 0
Ran m n judge rule calls (Ok o) =
    Promised m n calls (vec_items o.answers) (plan o.board) × (o.board.judge ≡ judge) × (o.board.rule ≡ rule) × (unfit n ≡ false) × Shown (plan o.board)
Ran m n judge rule calls (Err (SetupError.Refused fault)) = (unfit n ≡ true) × (fault ≡ SetupFault.Processors)
Ran m n judge rule calls (Err SetupError.Memory) = unfit n ≡ false
