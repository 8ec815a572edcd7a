-- Withdrawal by its rules: which answer and which plan they allow. Assumes nothing.
use Rattle.std.specs.Prelude.{◌≡◌, ℕ, suc, Bool, true, false, List, [], ◌∷◌, ◌++◌, map, Ok, Err, Result, slice_index_or}
use Rattle.model.specs.Row.{timings, due}
use Rattle.model.specs.declared.timing.Timing.{Timing}
use Rattle.model.specs.declared.row.Row.{Row}
use Rattle.model.specs.declared.fault.NamingFault.{NamingFault}
use Rattle.processor.specs.Keys.{has_key}
use Rattle.processor.specs.Gathering.{others}
use Rattle.board.specs.Withdraw.{sum_over, without, regrouped, known}
use Rattle.processor.specs.Candidate.{Candidate}

-- a timing is the whole form of a row's reservation: all its budgets, the deadline of its head with the budgets of its tails, its period
pub record WholeForm (plan : List (List Row)) (row : Row) (x : Timing) : Type 0 where
  pub budget : x.budget ≡ sum_over (λ r. r.timing.budget) row.key plan
  pub deadline : x.deadline ≡ sum_over due row.key plan
  pub period : x.period ≡ row.timing.period

-- one step, on the processor at p: the key gathered there, or 0, and the plan after it
pub data Gathers (accepts : List Timing → Bool) (p : ℕ) (plan : List (List Row)) (key : ℕ) (after : List (List Row)) : Type 0 where
  -- there is no candidate
  nobody : ((row : Row) → Candidate (slice_index_or plan p []) row → ⊥) → key ≡ 0 → after ≡ plan → Gathers accepts p plan key after
  -- the judge does not accept the other rows with the candidate whole at the end
  stays :
      (row : Row) → Candidate (slice_index_or plan p []) row →
      ((x : Timing) → WholeForm plan row x → accepts (timings (others row.key (slice_index_or plan p [])) ++ (x ∷ [])) ≡ false) →
      key ≡ 0 → after ≡ plan → Gathers accepts p plan key after
  -- the judge accepts them: all rows of the candidate give way to its whole row
  joins :
      (row : Row) (x : Timing) → Candidate (slice_index_or plan p []) row → WholeForm plan row x →
      accepts (timings (others row.key (slice_index_or plan p [])) ++ (x ∷ [])) ≡ true →
      key ≡ row.key → after ≡ regrouped p row.key x plan → Gathers accepts p plan key after

-- one step for each processor from p on that held the withdrawn reservation, in rising number, each from the plan that the step before left
pub data Visits (accepts : List Timing → Bool) : ℕ → List Bool → List (List Row) → List ℕ → List (List Row) → Type 0 where
  done : {p : ℕ} {plan : List (List Row)} → Visits accepts p [] plan [] plan
  passed :
      {p : ℕ} {held : List Bool} {plan after : List (List Row)} {keys : List ℕ} → Visits accepts (suc p) held plan keys after →
      Visits accepts p (false ∷ held) plan (0 ∷ keys) after
  visited :
      {p k : ℕ} {held : List Bool} {plan next after : List (List Row)} {keys : List ℕ} → Gathers accepts p plan k next →
      Visits accepts (suc p) held next keys after → Visits accepts p (true ∷ held) plan (k ∷ keys) after

-- a withdrawal: refused where the key does not stand, the plan unchanged; else the reservation's rows are gone and the steps follow
pub data Withdraws (accepts : List Timing → Bool) (key : ℕ) (plan : List (List Row)) (answer : Result (List ℕ) NamingFault) (after : List (List Row)) : Type 0 where
  refused : known key plan ≡ false → answer ≡ Err NamingFault.Key → after ≡ plan → Withdraws accepts key plan answer after
  gone :
      (keys : List ℕ) → known key plan ≡ true → Visits accepts 0 (map (has_key key) plan) (without key plan) keys after →
      answer ≡ Ok keys → Withdraws accepts key plan answer after
