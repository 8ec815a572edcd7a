-- Admission by its rules: which answer and which plan they allow. Assumes nothing.
use Rattle.std.specs.Prelude.{◌≡◌, ℕ, ◌+◌, ◌-◌, ◌<◌, ◌≤◌, Bool, true, ◌⊎◌, List, [], ◌∷◌, ◌++◌, ℤ, Some, None, Ok, Err, Option, Result}
use Rattle.model.specs.Refusal.{request_number}
use Rattle.model.specs.declared.timing.Timing.{Timing}
use Rattle.model.specs.declared.row.Kind.{Kind}
use Rattle.model.specs.declared.row.Row.{Row}
use Rattle.model.specs.declared.fault.RequestFault.{RequestFault}
use Rattle.board.specs.declared.cut.Cut.{Cut}
use Rattle.board.specs.declared.admission.Placed.{Placed}
use Rattle.board.specs.Keys.{stands, reservations}
use Rattle.board.specs.Split.{placed, split_rows}
use Rattle.board.specs.Admit.{written}
use Rattle.promise.specs.Choosing.{Takes, FirstTaker, LongestTail, NoTail}

-- a refusal applies to a request; no place is told only where none of the others applies
abbrev pub Applies : ℕ → ℕ → ℕ → ℕ → List (List Row) → RequestFault → Type 0
Applies key c d t plan RequestFault.Key = (key < 1) ⊎ (65535 < key)
Applies key c d t plan RequestFault.Budget = c ≡ 0
Applies key c d t plan RequestFault.Deadline = d < c
Applies key c d t plan RequestFault.Period = t < d
Applies key c d t plan RequestFault.Limit = 100000 < t
Applies key c d t plan RequestFault.Stands = stands key plan ≡ true
Applies key c d t plan RequestFault.Full = 64 ≤ reservations plan
Applies key c d t plan RequestFault.NoPlace = ⊥

-- the first refusal that applies: it does, and none of a lower number does
pub record FirstFault (key c d t : ℕ) (plan : List (List Row)) (fault : RequestFault) : Type 0 where
  pub applies : Applies key c d t plan fault
  pub none_before : (other : RequestFault) → request_number other < request_number fault → Applies key c d t plan other → ⊥

-- no refusal applies, and x is the newcomer's timing
pub record Newcomer (key c d t : ℕ) (plan : List (List Row)) (x : Timing) : Type 0 where
  pub faultless : (fault : RequestFault) → Applies key c d t plan fault → ⊥
  pub budget : x.budget ≡ c
  pub deadline : x.deadline ≡ d
  pub period : x.period ≡ t

-- a tail of budget b, due b after it starts, is cut off x; the head keeps the period and has that much less budget and deadline
pub record CutOff (x : Timing) (b : ℕ) (tail head : Timing) : Type 0 where
  pub tail_budget : tail.budget ≡ b
  pub tail_deadline : tail.deadline ≡ b
  pub tail_period : tail.period ≡ x.period
  pub head_budget : head.budget + b ≡ x.budget
  pub head_deadline : head.deadline + b ≡ x.deadline
  pub head_period : head.period ≡ x.period

module _ {R : Type 0} (first : R → R → Bool) (ranks : ℕ → ℤ → ℕ → R) (accepts : List Timing → Bool) (allows : List Timing → ℕ → ℕ → ℕ)
    (plan : List (List Row)) (key : ℕ) where
  -- one more tail: the longest that anybody allows, and x without it
  pub record Sets (cuts : List Cut) (x : Timing) (grown : List Cut) (head : Timing) : Type 0 where
    pub processor : ℕ
    pub tail : Timing
    pub longest : LongestTail allows plan cuts x.period (x.budget - 1) processor tail.budget
    pub cut : CutOff x tail.budget tail head
    pub grows : grown ≡ cuts ++ (record { processor = processor; timing = tail } ∷ [])

  -- what comes of splitting x after these tails were set, where nobody takes x as it is
  pub data Splits : List Cut → Timing → Option (List Placed) → Type 0 where
    -- nobody allows a tail: no place
    ended : {cuts : List Cut} {x : Timing} → NoTail allows plan cuts x.period (x.budget - 1) → Splits cuts x None
    -- with one more tail the head goes to the first that takes it
    headed :
        {cuts : List Cut} {x : Timing} {rows : List Placed} (grown : List Cut) (head : Timing) (p : ℕ) → Sets cuts x grown head →
        FirstTaker first ranks accepts plan grown head p → rows ≡ split_rows key p head grown → Splits cuts x (Some rows)
    -- nobody takes the head: once more, with what is left
    further :
        {cuts : List Cut} {x : Timing} {result : Option (List Placed)} (grown : List Cut) (head : Timing) → Sets cuts x grown head →
        ((q : ℕ) → Takes accepts plan grown head q → ⊥) → Splits grown head result → Splits cuts x result

  -- an admission: refused for the first fault, whole, split, or without a place; a refusal leaves the plan as it is
  pub data Admits (c d t : ℕ) (answer : Result (List Placed) RequestFault) (after : List (List Row)) : Type 0 where
    refused : (fault : RequestFault) → FirstFault key c d t plan fault → answer ≡ Err fault → after ≡ plan → Admits c d t answer after
    whole :
        (x : Timing) (p : ℕ) → Newcomer key c d t plan x → FirstTaker first ranks accepts plan [] x p →
        answer ≡ Ok (placed key p Kind.Whole x ∷ []) → after ≡ written plan (placed key p Kind.Whole x ∷ []) → Admits c d t answer after
    split :
        (x : Timing) (rows : List Placed) → Newcomer key c d t plan x → ((q : ℕ) → Takes accepts plan [] x q → ⊥) → Splits [] x (Some rows) →
        answer ≡ Ok rows → after ≡ written plan rows → Admits c d t answer after
    no_place :
        (x : Timing) → Newcomer key c d t plan x → ((q : ℕ) → Takes accepts plan [] x q → ⊥) → Splits [] x None →
        answer ≡ Err RequestFault.NoPlace → after ≡ plan → Admits c d t answer after
