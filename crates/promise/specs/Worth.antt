-- What the promise shuts out: boards that would be worth nothing. Assumes nothing.
use Rattle.std.specs.Prelude.{◌≡◌, ℕ, ◌-◌, ◌<◌, ◌≤◌, true, false, ◌≢◌, ◌⊎◌, List, [], ◌∷◌, ◌++◌, length, replicate, Some, Ok, Err}
use Rattle.std.specs.List.{ContainsAt as Has, slice_get}
use Rattle.model.specs.declared.timing.Timing.{Timing}
use Rattle.model.specs.declared.row.Kind.{Kind}
use Rattle.model.specs.declared.row.Row.{Row}
use Rattle.model.specs.declared.fault.RequestFault.{RequestFault}
use Rattle.model.specs.Scale.{scale}
use Rattle.model.specs.Share.{densities}
use Rattle.model.specs.Row.{timings}
use Rattle.runs.specs.Plan.{Reservation, total}
use Rattle.runs.specs.Needed.{LateInstance}
use Rattle.board.specs.declared.admission.Admission.{Admission}
use Rattle.board.specs.Setup.{unfit}
use Rattle.board.specs.Split.{placed}
use Rattle.board.specs.Admit.{told}
use Rattle.board.specs.Look.{looked}
use Rattle.store.specs.Image.{image}
use Rattle.store.specs.Loading.{Loads}
use Rattle.promise.specs.declared.call.Call.{Call}
use Rattle.promise.specs.declared.call.Answer.{Answer}
use Rattle.promise.specs.Meaning.{Meaning}
use Rattle.promise.specs.Plan.{Plan, On, rows_at, Stands}
use Rattle.promise.specs.Choosing.{rank_at}
use Rattle.promise.specs.History.{accepted_after}
use Rattle.promise.specs.Promise.{Promised}

-- a call that asks for just this timing
abbrev pub asks : ℕ → Timing → Call
asks k x = Call.Admit (record { key = k; budget = x.budget; deadline = x.deadline; period = x.period })

-- after any list of calls of which all is promised
pub record Holds {R : Type 0} (m : Meaning R) (n : ℕ) (calls : List Call) (answers : List Answer) (last : Plan) : Type 0 where
  -- no instance is late: a board that admits all without asking, or sets one tail and pretends the rest, is shut out
  pub late : LateInstance (accepted_after [] calls answers) last → ⊥
  -- who is accepted stands, and its rows have its budget: a board that replies with rows and keeps none is shut out
  pub stands : (x : Reservation) → Has (accepted_after [] calls answers) x → Stands last x.key × (total (λ p i r. r.timing.budget) x.key last ≡ x.budget)
  -- every row is that of somebody who is accepted
  pub owned : (p : ℕ) (row : Row) → On last p → Has (rows_at last p) row → (x : Reservation) × Has (accepted_after [] calls answers) x × (x.key ≡ row.key)
  -- the judge says yes to every processor
  pub judged : (p : ℕ) → On last p → m.accepts (timings (rows_at last p)) ≡ true
  -- look shows at each place of a processor a row that stands there: a board that shows other rows is shut out
  pub looks : (p i : ℕ) → On last p → 1 ≤ i → i ≤ length (rows_at last p) → (row : Row) × (slice_get (rows_at last p) (i - 1) ≡ Some row) × (looked last p i ≡ Ok row)
  -- an empty board of as many processors loads its image as its plan
  pub stored : Loads m.accepts (image last) (replicate n []) (Ok tt) last

-- what is promised of every list of calls, and of a first call
pub record ShutOut {R : Type 0} (m : Meaning R) : Type 0 where
  pub holds : (n : ℕ) (calls : List Call) (answers : List Answer) (last : Plan) → unfit n ≡ false → Promised m n calls answers last → Holds m n calls answers last
  -- a board that has no place for anybody: where it has none, a processor on which the newcomer would stand within density one has 32 rows, and no row is free
  pub full : (n k : ℕ) (x : Timing) (calls : List Call) (answers : List Answer) (last : Plan) →
      Promised m n (calls ++ (asks k x ∷ [])) (answers ++ (Answer.Admitted (Err RequestFault.NoPlace) ∷ [])) last →
      (p : ℕ) → On last p → densities scale (timings (rows_at last p) ++ (x ∷ [])) ≤ scale → 32 ≤ length (rows_at last p)
  -- so an empty board has a place for every timing
  pub empty : (n k : ℕ) (x : Timing) (last : Plan) → unfit n ≡ false → Promised m n (asks k x ∷ []) (Answer.Admitted (Err RequestFault.NoPlace) ∷ []) last → ⊥
  -- a board that always takes processor 1: on an empty one the processor taken comes before every other in rank, or has a lower number
  pub one : (n k p q : ℕ) (x y : Timing) (a : Admission) (last : Plan) → Promised m n (asks k x ∷ []) (Answer.Admitted (Ok a) ∷ []) last →
      told (Ok a) ≡ Ok (placed k p Kind.Whole y ∷ []) → 1 ≤ q → q ≤ n → q ≢ p →
      (m.before (rank_at m.rank (replicate n []) p) (rank_at m.rank (replicate n []) q) ≡ true)
      ⊎ ((rank_at m.rank (replicate n []) p ≡ rank_at m.rank (replicate n []) q) × (p < q))
