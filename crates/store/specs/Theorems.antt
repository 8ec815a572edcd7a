-- What holds of stored plans. Assumes nothing.
use Rattle.std.specs.Prelude.{◌≡◌, ℕ, ◌≤◌, Bool, false, List, [], ◌∷◌, length, None, Ok, Result}
use Rattle.std.specs.List.{AllByRecursion}
use Rattle.model.specs.declared.timing.Timing.{Timing}
use Rattle.model.specs.declared.row.Kind.{Kind}
use Rattle.model.specs.declared.row.Row.{Row}
use Rattle.store.specs.declared.fault.BufferFault.{BufferFault}
use Rattle.store.specs.Image.{image}
use Rattle.store.specs.Record.{entry, bad_entry}
use Rattle.store.specs.Load.{plan_fault, Loaded}
use Rattle.store.specs.Loading.{Lawful, Loads}

-- one processor with key 7, budget 2, deadline 4 and period 4, whole
abbrev pub OneRowStored : Type 0
OneRowStored =
    (row : Row) → row.key ≡ 7 → row.kind ≡ Kind.Whole →
    row.timing.budget ≡ 2 → row.timing.deadline ≡ 4 → row.timing.period ≡ 4 →
    image ((row ∷ []) ∷ [])
    ≡ 0x01 ∷ 0x01 ∷ 0x01 ∷ 0x00 ∷ 0x01 ∷ 0x00 ∷ 0x00 ∷ 0x00 ∷ 0x07 ∷ 0x00 ∷ 0x00 ∷ 0x00
    ∷ 0x02 ∷ 0x00 ∷ 0x00 ∷ 0x00 ∷ 0x04 ∷ 0x00 ∷ 0x00 ∷ 0x00 ∷ 0x04 ∷ 0x00 ∷ 0x00 ∷ 0x00 ∷ []

-- a board's plan: at most 8 processors with at most 32 rows each, the rows within their limits, and no rule of plans fails
abbrev pub Storable : (List Timing → Bool) → List (List Row) → Type 0
Storable accepts plan =
    (length plan ≤ 8) × AllByRecursion (λ rows. length rows ≤ 32) plan × AllByRecursion (AllByRecursion (λ row. bad_entry (entry row) ≡ false)) plan
    × (plan_fault accepts plan ≡ None)

-- a saved plan loads as the plan that was saved, on any board of equal processor count and judge
abbrev pub SavedLoads : (List Timing → Bool) → Type 0
SavedLoads accepts =
    (plan before after : List (List Row)) (answer : Result (Unit {0}) BufferFault) → Storable accepts plan → length before ≡ length plan →
    Loaded accepts (image plan) before answer after → (answer ≡ Ok tt) × (after ≡ plan)

-- saving after loading what save wrote gives the same bytes
abbrev pub SavedAgain : (List Timing → Bool) → Type 0
SavedAgain accepts =
    (plan before after : List (List Row)) (answer : Result (Unit {0}) BufferFault) → Storable accepts plan → length before ≡ length plan →
    Loaded accepts (image plan) before answer after → image after ≡ image plan

-- an image that loads, saved and loaded again, gives the same plan
abbrev pub LoadedAgain : (List Timing → Bool) → Type 0
LoadedAgain accepts =
    (bytes : List ℕ) (before after before' after' : List (List Row)) (answer : Result (Unit {0}) BufferFault) →
    length before ≤ 8 → length before' ≡ length before → Loaded accepts bytes before (Ok tt) after →
    Loaded accepts (image after) before' answer after' → (answer ≡ Ok tt) × (after' ≡ after)

-- The same by the rules of the format alone.

-- a tail that a record can say has a part from 1 to 7, and its budget is its deadline
abbrev pub TailFits : Kind → Timing → Type 0
TailFits Kind.Whole x = Unit {0}
TailFits Kind.Head x = Unit {0}
TailFits (Kind.Tail p) x = (1 ≤ p) × (p ≤ 7) × (x.budget ≡ x.deadline)

-- a row that a record can say; its timing is within the limits by its type
abbrev pub Sayable : Row → Type 0
Sayable row = (1 ≤ row.key) × TailFits row.kind row.timing

-- a plan that an image can say: at most 8 processors with at most 32 rows each, rows that records can say, and no rule of plans fails
pub record SayablePlan (accepts : List Timing → Bool) (plan : List (List Row)) : Type 0 where
  pub eight : length plan ≤ 8
  pub short : AllByRecursion (λ rows. length rows ≤ 32) plan
  pub rows : AllByRecursion (AllByRecursion Sayable) plan
  pub lawful : Lawful accepts plan

-- a saved plan loads as the plan that was saved, on any board of equal processor count and judge
abbrev pub SayableLoads : (List Timing → Bool) → Type 0
SayableLoads accepts =
    (plan before : List (List Row)) → SayablePlan accepts plan → length before ≡ length plan → Loads accepts (image plan) before (Ok tt) plan

-- saving after loading what save wrote gives the same bytes
abbrev pub SayableAgain : (List Timing → Bool) → Type 0
SayableAgain accepts =
    (plan before after : List (List Row)) (answer : Result (Unit {0}) BufferFault) → SayablePlan accepts plan → length before ≡ length plan →
    Loads accepts (image plan) before answer after → image after ≡ image plan

-- an image that loads, saved and loaded again, gives the same plan
abbrev pub SayableReloads : (List Timing → Bool) → Type 0
SayableReloads accepts =
    (bytes : List ℕ) (before after before' : List (List Row)) → length before ≤ 8 → length before' ≡ length before →
    Loads accepts bytes before (Ok tt) after → Loads accepts (image after) before' (Ok tt) after
