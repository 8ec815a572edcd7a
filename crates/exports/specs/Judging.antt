-- What is replied about a list of rows. Assumes nothing.
use Rattle.std.specs.Prelude.{◌≡◌, ℕ, Bool, true, false, cond, List, [], ◌∷◌, map, length, Some, None, Ok, Err, Option, Result, nat_lt}
use Rattle.model.specs.Limits.{timing_fault}
use Rattle.model.specs.Refusal.{request_number, setup_number}
use Rattle.model.specs.Scale.{scale}
use Rattle.model.specs.declared.timing.Timing.{Timing}
use Rattle.model.specs.declared.fault.RequestFault.{RequestFault}
use Rattle.judges.specs.Allowance.{demand_allowance}
use Rattle.judges.specs.Demand.{demand_yes}
use Rattle.judges.specs.Setting.{setting_fault}
use Rattle.judges.specs.declared.demand.Demand.{Demand}
use Rattle.exports.specs.Refusal.{refusal_number}
use Rattle.exports.specs.declared.refusal.Refusal.{Refusal}
use Rattle.exports.specs.declared.numbers.Numbers.{Numbers}
use Rattle.exports.specs.declared.reply.Reply.{Reply}

-- the numbers of a timing
abbrev pub numbers : Timing → Numbers
numbers x = record { budget = x.budget; deadline = x.deadline; period = x.period }

-- the first of two refusals
abbrev pub or_later : Option ℕ → Option ℕ → Option ℕ
or_later (Some n) later = Some n
or_later None later = later

-- a refusal's number
abbrev pub numbered : {F : Type 0} → (F → ℕ) → Option F → Option ℕ
numbered number (Some f) = Some (number f)
numbered number None = None

-- the first limit that a row breaks
abbrev pub rows_fault : List Numbers → Option ℕ
rows_fault [] = None
rows_fault (x ∷ l) = or_later (numbered request_number (timing_fault x.budget x.deadline x.period)) (rows_fault l)

-- more rows than a judge ever takes are refused as a wrong count
abbrev pub long_fault : List Numbers → Option ℕ
long_fault rows = cond (nat_lt 32 (length rows)) (Some 51) None

-- the first refusal before any row is read: of the judge's numbers, of the count of rows
abbrev pub start_fault : ℕ → ℕ → List Numbers → Option ℕ
start_fault n r rows = or_later (numbered setup_number (setting_fault n r)) (long_fault rows)

-- the first refusal: of the judge's numbers, of the count of rows, of a row
abbrev pub asked_fault : ℕ → ℕ → List Numbers → Option ℕ
asked_fault n r rows = or_later (numbered setup_number (setting_fault n r)) (or_later (long_fault rows) (rows_fault rows))

-- a judge of these numbers, or the first refusal before any row
abbrev pub Asked : ℕ → ℕ → List Numbers → Result Demand Refusal → Type 0
Asked n r rows (Ok j) = (start_fault n r rows ≡ None) × (j.steps ≡ n) × (j.refinements ≡ r)
Asked n r rows (Err f) = start_fault n r rows ≡ Some (refusal_number f)

-- timings of just these numbers, or the first limit that a row breaks
abbrev pub Read : List Numbers → List Timing → Result (Unit {0}) RequestFault → Type 0
Read rows l (Ok _) = (rows_fault rows ≡ None) × (map numbers l ≡ rows)
Read rows l (Err f) = rows_fault rows ≡ Some (request_number f)

-- an answer on timings of just these numbers, or the first refusal
abbrev pub Answered : {A : Type 0} → Option ℕ → List Numbers → (List Timing → A) → Result A Refusal → Type 0
Answered fault rows says (Ok a) = (fault ≡ None) × ((l : List Timing) × (map numbers l ≡ rows) × (a ≡ says l))
Answered fault rows says (Err f) = fault ≡ Some (refusal_number f)

-- a refusal, or what is said of the timings of these numbers
abbrev pub Replied : Option ℕ → List Numbers → (List Timing → ℕ) → Reply → Type 0
Replied (Some n) rows says reply = (reply.refused ≡ n) × (reply.value ≡ 0)
Replied None rows says reply =
    (reply.refused ≡ 0) × ((l : List Timing) × (map numbers l ≡ rows) × (reply.value ≡ says l))

-- 1 for yes, 0 for no
abbrev pub as_number : Bool → ℕ
as_number true = 1
as_number false = 0

abbrev pub Judged : ℕ → List Numbers → Reply → Type 0
Judged n rows = Replied (asked_fault n 0 rows) rows (λ l. as_number (demand_yes scale n l))

abbrev pub Allowed : ℕ → ℕ → List Numbers → ℕ → ℕ → Reply → Type 0
Allowed n r rows period cap = Replied (asked_fault n r rows) rows (λ l. demand_allowance scale n r l period cap)
