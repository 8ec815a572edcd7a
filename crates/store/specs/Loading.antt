-- Loading in the words of the format: chains that go from heads along next to zero, and the rows along them. Assumes nothing.
use Rattle.std.specs.Prelude.{◌≡◌, ℕ, ◌+◌, ◌-◌, ◌<◌, ◌≤◌, Bool, true, false, cond, ◌⊎◌, List, [], ◌∷◌, ◌++◌, map, length, Some, None, Ok, Err, Result, ◌==◌, slice_index_or}
use Rattle.std.specs.List.{AllByRecursion}
use Rattle.model.specs.declared.timing.Timing.{Timing}
use Rattle.model.specs.declared.row.Row.{Row}
use Rattle.model.specs.Row.{timings}
use Rattle.store.specs.declared.entry.Entry.{Entry}
use Rattle.store.specs.Record.{entry, entry_at, next_at, bad_entry}
use Rattle.store.specs.declared.fault.BufferFault.{BufferFault}
use Rattle.store.specs.declared.fault.BufferRule.{BufferRule}
use Rattle.store.specs.Fault.{fault}
use Rattle.store.specs.Header.{header_fault, record_count}
use Rattle.store.specs.Chains.{head_at}
use Rattle.store.specs.Keys.{bad_key, keys}

-- a chain: from a number along next to zero
pub data ChainFrom (next : ℕ → ℕ) : ℕ → List ℕ → Type 0 where
  ends : ChainFrom next 0 []
  goes : {n : ℕ} {l : List ℕ} → 1 ≤ n → ChainFrom next (next n) l → ChainFrom next n (n ∷ l)

-- how often a number is in a list
abbrev pub occurs : ℕ → List ℕ → ℕ
occurs n [] = 0
occurs n (x ∷ l) = cond (x == n) 1 0 + occurs n l

-- all elements of the lists of a list
abbrev pub all_of : {A : Type 0} → List (List A) → List A
all_of [] = []
all_of (l ∷ ls) = l ++ all_of ls

-- a chain that is sound after the records that were reached before: from the head along next to zero, at most 32 records,
-- no number above r, and no record reached twice
pub record Sound (next : ℕ → ℕ) (r : ℕ) (before : List ℕ) (head : ℕ) (chain : List ℕ) : Type 0 where
  pub along : ChainFrom next head chain
  pub short : length chain ≤ 32
  pub within : AllByRecursion (λ n. n ≤ r) chain
  pub fresh : (n : ℕ) → 1 ≤ n → n ≤ r → occurs n (before ++ chain) ≤ 1

-- the chains of processors from p on, each sound after those before it
abbrev pub Sounds : (ℕ → ℕ) → (ℕ → ℕ) → ℕ → ℕ → List ℕ → List (List ℕ) → Type 0
Sounds head next r p before [] = Unit {0}
Sounds head next r p before (chain ∷ chains) =
    Sound next r before (head p) chain × Sounds head next r (p + 1) (before ++ chain) chains

-- the chains of an image of m processors and r records: each record lies on just one of them
pub record Lies (head next : ℕ → ℕ) (m r : ℕ) (chains : List (List ℕ)) : Type 0 where
  pub count : length chains ≡ m
  pub sound : Sounds head next r 0 [] chains
  pub once : (n : ℕ) → 1 ≤ n → n ≤ r → occurs n (all_of chains) ≡ 1

-- the first processor whose chain is not sound, processors counted from 1
pub record Stuck (head next : ℕ → ℕ) (m r p : ℕ) : Type 0 where
  pub chains : List (List ℕ)
  pub is : p ≡ length chains + 1
  pub within : p ≤ m
  pub sound : Sounds head next r 0 [] chains
  pub stuck : (chain : List ℕ) → Sound next r (all_of chains) (head (length chains)) chain → ⊥

-- all chains are sound, and a record is left over
pub record LeftOver (head next : ℕ → ℕ) (m r : ℕ) : Type 0 where
  pub chains : List (List ℕ)
  pub count : length chains ≡ m
  pub sound : Sounds head next r 0 [] chains
  pub over : (n : ℕ) × (1 ≤ n) × (n ≤ r) × (occurs n (all_of chains) ≡ 0)

-- what an image of m processors says by its format: no fault in its header, its chains, and that every record is a row's
pub record Image (bytes : List ℕ) (m : ℕ) (chains : List (List ℕ)) : Type 0 where
  pub header : header_fault m bytes ≡ None
  pub lies : Lies (head_at bytes) (next_at m bytes) m (record_count bytes) chains
  pub good : (n : ℕ) → 1 ≤ n → n ≤ record_count bytes → bad_entry (entry_at m bytes n) ≡ false

-- the plan of an image is the rows along its chains
abbrev pub PlanOf : List ℕ → ℕ → List (List Row) → Type 0
PlanOf bytes m plan =
    (chains : List (List ℕ)) × Image bytes m chains × (map (map entry) plan ≡ map (map (entry_at m bytes)) chains)

-- the rows of every key make one reservation, there are at most 64 keys, and the judge says yes to every processor
pub record Lawful (accepts : List Timing → Bool) (plan : List (List Row)) : Type 0 where
  pub reservations : AllByRecursion (λ row. bad_key plan row.key ≡ false) (all_of plan)
  pub few : keys plan ≤ 64
  pub judged : AllByRecursion (λ rows. accepts (timings rows) ≡ true) plan

-- a key that some row has
abbrev pub KeyOf : ℕ → List Row → Type 0
KeyOf key [] = ⊥
KeyOf key (row ∷ rows) = (row.key ≡ key) ⊎ KeyOf key rows

-- the lowest key of the plan whose rows make no reservation
pub record LowestKey (plan : List (List Row)) (key : ℕ) : Type 0 where
  pub there : KeyOf key (all_of plan)
  pub bad : bad_key plan key ≡ true
  pub lowest : AllByRecursion (λ row. bad_key plan row.key ≡ true → key ≤ row.key) (all_of plan)

-- the lowest number of a record that is no row's
pub record LowestRecord (says : ℕ → Entry) (r n : ℕ) : Type 0 where
  pub some : 1 ≤ n
  pub within : n ≤ r
  pub bad : bad_entry (says n) ≡ true
  pub lowest : (k : ℕ) → 1 ≤ k → k < n → bad_entry (says k) ≡ false

-- the lowest processor whose rows get no, processors counted from 1
pub record LowestJudged (accepts : List Timing → Bool) (plan : List (List Row)) (p : ℕ) : Type 0 where
  pub some : 1 ≤ p
  pub within : p ≤ length plan
  pub no_said : accepts (timings (slice_index_or plan (p - 1) [])) ≡ false
  pub lowest : (k : ℕ) → 1 ≤ k → k < p → accepts (timings (slice_index_or plan (k - 1) [])) ≡ true

-- Loading a board of m processors: the plan of the image, or the first rule that fails, at the lowest place where it fails;
-- a refusal keeps the plan.
pub data Loads (accepts : List Timing → Bool) (bytes : List ℕ) (before : List (List Row)) : Result (Unit {0}) BufferFault → List (List Row) → Type 0 where
  loaded : (plan : List (List Row)) → PlanOf bytes (length before) plan → Lawful accepts plan → Loads accepts bytes before (Ok tt) plan
  bad_header : (f : BufferFault) → header_fault (length before) bytes ≡ Some f → Loads accepts bytes before (Err f) before
  bad_chain :
      (p : ℕ) → header_fault (length before) bytes ≡ None →
      Stuck (head_at bytes) (next_at (length before) bytes) (length before) (record_count bytes) p →
      Loads accepts bytes before (Err (fault BufferRule.Chains p)) before
  left_over :
      header_fault (length before) bytes ≡ None →
      LeftOver (head_at bytes) (next_at (length before) bytes) (length before) (record_count bytes) →
      Loads accepts bytes before (Err (fault BufferRule.Chains 0)) before
  bad_record :
      (chains : List (List ℕ)) (n : ℕ) → header_fault (length before) bytes ≡ None →
      Lies (head_at bytes) (next_at (length before) bytes) (length before) (record_count bytes) chains →
      LowestRecord (entry_at (length before) bytes) (record_count bytes) n →
      Loads accepts bytes before (Err (fault BufferRule.Record n)) before
  no_reservation :
      (plan : List (List Row)) (key : ℕ) → PlanOf bytes (length before) plan → LowestKey plan key →
      Loads accepts bytes before (Err (fault BufferRule.Key key)) before
  many_keys :
      (plan : List (List Row)) → PlanOf bytes (length before) plan → AllByRecursion (λ row. bad_key plan row.key ≡ false) (all_of plan) → 64 < keys plan →
      Loads accepts bytes before (Err (fault BufferRule.Keys 0)) before
  not_judged :
      (plan : List (List Row)) (p : ℕ) → PlanOf bytes (length before) plan → AllByRecursion (λ row. bad_key plan row.key ≡ false) (all_of plan) → keys plan ≤ 64 →
      LowestJudged accepts plan p → Loads accepts bytes before (Err (fault BufferRule.Judge p)) before
