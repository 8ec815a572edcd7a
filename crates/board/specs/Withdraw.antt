-- Withdrawal: a reservation's rows are removed, and split reservations give way to one whole row where it then fits. Assumes nothing.
use Rattle.std.specs.Prelude.{ℕ, suc, ◌+◌, Bool, true, false, cond, not, ◌&&◌, List, [], ◌∷◌, ◌++◌, map, Some, None, Ok, Err, Option, Result, nat_lt, slice_index_or, ◌-◌, ◌==◌, length}
use Rattle.std.specs.List.{slice_get}
use Rattle.model.specs.Row.{timings, due}
use Rattle.model.specs.declared.timing.Timing.{Timing}
use Rattle.model.specs.declared.row.Kind.{Kind}
use Rattle.model.specs.declared.row.Row.{Row}
use Rattle.model.specs.declared.fault.NamingFault.{NamingFault}
use Rattle.processor.specs.Few.{held}
use Rattle.processor.specs.Keys.{has_key}
use Rattle.processor.specs.Gathering.{others, candidate, sum_on}
use Rattle.board.specs.declared.gathered.Gathered.{Gathered}
use Rattle.board.specs.Plan.{append}
use Rattle.board.specs.Timed.{timed}
use Rattle.board.specs.Keys.{stands}

-- the plan without a reservation
abbrev pub without : ℕ → List (List Row) → List (List Row)
without key = map (others key)

-- the sum of a measure over a reservation's rows on all processors
abbrev pub sum_over : (Row → ℕ) → ℕ → List (List Row) → ℕ
sum_over f key [] = 0
sum_over f key (rows ∷ plan) = sum_on f key rows + sum_over f key plan

-- the whole form of a row's reservation
abbrev pub whole : List (List Row) → Row → Option Timing
whole plan row = timed (sum_over (λ r. r.timing.budget) row.key plan) (sum_over due row.key plan) row.timing.period

-- all rows of a reservation give way to one whole row at the end of a processor's list
abbrev pub regrouped : ℕ → ℕ → Timing → List (List Row) → List (List Row)
regrouped p key x plan = append p (record { key = key; kind = Kind.Whole; timing = x }) (without key plan)

-- gathering on a processor: the key gathered, or 0, and the plan then
abbrev pub gather_whole : (List Timing → Bool) → ℕ → List (List Row) → ℕ → Option Timing → ℕ × List (List Row)
gather_whole accepts p plan key None = (0, plan)
gather_whole accepts p plan key (Some x) =
    cond (accepts (timings (others key (slice_index_or plan p [])) ++ (x ∷ []))) (key, regrouped p key x plan) (0, plan)

-- the same for the reservation of a row, if there is a candidate
abbrev pub gather_row : (List Timing → Bool) → ℕ → List (List Row) → Option Row → ℕ × List (List Row)
gather_row accepts p plan None = (0, plan)
gather_row accepts p plan (Some row) = gather_whole accepts p plan row.key (whole plan row)

-- the same for the candidate on the processor
abbrev pub gather : (List Timing → Bool) → ℕ → List (List Row) → ℕ × List (List Row)
gather accepts p plan = gather_row accepts p plan (candidate (slice_index_or plan p []))

-- gathering on those processors from p on that held the withdrawn reservation, each from the plan that the one before left
abbrev pub gather_from : (List Timing → Bool) → ℕ → List Bool → List (List Row) → List ℕ × List (List Row)
gather_from accepts p [] plan = ([], plan)
gather_from accepts p (false ∷ held) plan =
    let rest = gather_from accepts (suc p) held plan in (0 ∷ rest.0, rest.1)
gather_from accepts p (true ∷ held) plan =
    let here = gather accepts p plan in let rest = gather_from accepts (suc p) held here.1 in (here.0 ∷ rest.0, rest.1)

-- the keys gathered, by processor, and the plan after a withdrawal
abbrev pub withdrawn : (List Timing → Bool) → ℕ → List (List Row) → List ℕ × List (List Row)
withdrawn accepts key plan = gather_from accepts 0 (map (has_key key) plan) (without key plan)

-- a key that can be withdrawn: it is one, and it stands
abbrev pub known : ℕ → List (List Row) → Bool
known key plan = not (nat_lt 65535 key) && stands key plan

-- what a withdrawal answers, and the plan after it
abbrev pub withdrawal : (List Timing → Bool) → ℕ → List (List Row) → Result (List ℕ) NamingFault × List (List Row)
withdrawal accepts key plan =
    cond (known key plan) (Ok (withdrawn accepts key plan).0, (withdrawn accepts key plan).1) (Err NamingFault.Key, plan)

-- the key that was gathered, or 0
abbrev pub key_or_zero : Option ℕ → ℕ
key_or_zero (Some key) = key
key_or_zero None = 0

-- the keys in an answer
abbrev pub told : Result Gathered NamingFault → Result (List ℕ) NamingFault
told (Ok gathered) = Ok (held gathered.keys)
told (Err fault) = Err fault

-- the row that was gathered on a processor stands last there; key 0 says that none was
abbrev pub gathered_row : ℕ → List Row → Option Row
gathered_row key rows = cond (key == 0) None (slice_get rows (length rows - 1))
