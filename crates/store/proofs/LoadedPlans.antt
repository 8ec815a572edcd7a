-- A plan that was loaded keeps the rules of a board's plan, so that it can be saved and loaded again. Assumes nothing.
use Rattle.std.proofs.Common.{◌≡◌, ℕ, zero, suc, ◌+◌, ◌-◌, ◌<◌, ◌≤◌, Bool, true, false, cond, eqb, List, [], ◌∷◌, ◌++◌, map, length, take, replicate, Some, None, Ok, Err, Option, Result, sym, refl, ap, ◌∙◌, subst, ⊎_elim, arith}
use Rattle.std.specs.List.{AllByRecursion}
use Rattle.std.proofs.lemmas.List.{length-map, length_push}
use Rattle.std.proofs.ByRecursion.{All-push}
use Rattle.std.proofs.lemmas.Bool.{cond_both, cases_lt}
use Rattle.model.specs.declared.timing.Timing.{Timing}
use Rattle.model.specs.declared.row.Row.{Row}
use Rattle.store.specs.declared.entry.Entry.{Entry}
use Rattle.store.specs.declared.fault.BufferFault.{BufferFault}
use Rattle.store.specs.declared.fault.BufferRule.{BufferRule}
use Rattle.store.specs.Fault.{fault}
use Rattle.store.specs.Header.{header_fault, record_count}
use Rattle.store.specs.Record.{entry, entry_at, next_at, bad_entry}
use Rattle.store.specs.Records.{record_fault, Numbered}
use Rattle.store.specs.Chains.{head_at, barred, reach, walk, walks, sound_or, all_true, covered, chains}
use Rattle.store.specs.Entries.{unless, along, entries}
use Rattle.store.specs.Load.{plan_fault, replaced, Taken, Loaded}
use Rattle.store.specs.Theorems.{Storable, LoadedAgain}
use Rattle.store.proofs.Loads.{answered_none}
use Rattle.store.proofs.Reaches.{chains_numbered}
use Rattle.store.proofs.RoundTrips.{saved_loads}

-- a chain has at most as many records as it had room for
abbrev pub WalkShort : ℕ → Option (List ℕ × List Bool) → Type 0
WalkShort n (Some w) = length w.0 ≤ n
WalkShort n None = Unit {0}

pub walk_short :
    (n : ℕ) (next : ℕ → ℕ) (r room number : ℕ) (so_far : List ℕ) (reached : List Bool) → length so_far + room ≤ n →
    WalkShort n (walk next r room number so_far reached)
unfolding walk
walk_short n next r zero number so_far reached fits =
    cond_both (eqb number 0) (Some (so_far, reached)) None (WalkShort n) (λ _. omega arith) (λ _. tt)
walk_short n next r (suc room) number so_far reached fits =
    let rest = walk next r room (next number) (so_far ++ (number ∷ [])) (reach reached number) in
    cond_both (eqb number 0) (Some (so_far, reached)) (cond (barred r reached number) None rest) (WalkShort n) (λ _. omega arith)
    (λ _. cond_both (barred r reached number) None rest (WalkShort n) (λ _. tt)
    (λ _. walk_short n next r room (next number) (so_far ++ (number ∷ [])) (reach reached number)
    (omega (arith, length_push so_far number))))

-- there is one chain for each processor, none longer than 32
abbrev pub Sized : ℕ → List (List ℕ) → Type 0
Sized m l = (length l ≡ m) × AllByRecursion (λ c. length c ≤ 32) l

abbrev pub WalksSized : ℕ → Result (List (List ℕ) × List Bool) BufferFault → Type 0
WalksSized m (Ok w) = Sized m w.0
WalksSized m (Err f) = Unit {0}

sound_or_sized :
    (m place : ℕ) (o : Option (List ℕ × List Bool)) (more : List ℕ × List Bool → Result (List (List ℕ) × List Bool) BufferFault) →
    WalkShort 32 o → ((w : List ℕ × List Bool) → length w.0 ≤ 32 → WalksSized m (more w)) → WalksSized m (sound_or place o more)
sound_or_sized m place None more short then = tt
sound_or_sized m place (Some w) more short then = then w short

pub walks_sized :
    (m : ℕ) (head next : ℕ → ℕ) (r left p : ℕ) (so_far : List (List ℕ)) (reached : List Bool) → Sized (m - left) so_far → left ≤ m →
    WalksSized m (walks head next r left p so_far reached)
unfolding walks
walks_sized m head next r zero p so_far reached sized h = (omega arith, sized.1)
walks_sized m head next r (suc left) p so_far reached sized h =
    sound_or_sized m (p + 1) (walk next r 32 (head p) [] reached)
    (λ w. walks head next r left (p + 1) (so_far ++ (w.0 ∷ [])) w.1)
    (walk_short 32 next r 32 (head p) [] reached (omega arith))
    (λ w here. walks_sized m head next r left (p + 1) (so_far ++ (w.0 ∷ [])) w.1
    (omega (arith, length_push so_far w.0), All-push (λ c. length c ≤ 32) so_far w.0 sized.1 here) (omega arith))

abbrev ChainsSized : ℕ → Result (List (List ℕ)) BufferFault → Type 0
ChainsSized m (Ok l) = Sized m l
ChainsSized m (Err f) = Unit {0}

covered_sized : (m r : ℕ) (w : Result (List (List ℕ) × List Bool) BufferFault) → WalksSized m w → ChainsSized m (covered r w)
covered_sized m r (Ok w) sized =
    cond_both (all_true (take r w.1)) (Ok w.0) (Err (fault BufferRule.Chains 0)) (ChainsSized m) (λ _. sized) (λ _. tt)
covered_sized m r (Err f) sized = tt

pub chains_sized : (head next : ℕ → ℕ) (m r : ℕ) (l : List (List ℕ)) → chains head next m r ≡ Ok l → Sized m l
chains_sized head next m r l e =
    subst (ChainsSized m) e
    (covered_sized m r (walks head next r m 0 [] (replicate 256 false))
    (walks_sized m head next r m 0 [] (replicate 256 false) (omega arith, tt) (omega arith)))

-- no record is bad where none is told
pub fault_none : (b : Bool) (f : BufferFault) (o : Option BufferFault) → cond b (Some f) o ≡ None → (b ≡ false) × (o ≡ None)
fault_none true f o e = let z : ◌≡◌ {A = ℕ} 0 1 = cc in absurd (omega arith)
fault_none false f o e = (refl, e)

pub record_good :
    (says : ℕ → Entry) (left number : ℕ) → record_fault says left number ≡ None → (n : ℕ) → number ≤ n → n < number + left →
    bad_entry (says n) ≡ false
unfolding record_fault
record_good says zero number e n low high = absurd (omega arith)
record_good says (suc left) number e n low high =
    let here = fault_none (bad_entry (says number)) (fault BufferRule.Record number) (record_fault says left (number + 1)) e in
    ⊎_elim
    (λ (more : number < n). record_good says left (number + 1) here.1 n (omega arith) (omega arith))
    (λ (least : n ≤ number). let same : n ≡ number = omega arith in ap (λ k. bad_entry (says k)) same ∙ here.0)
    (cases_lt number n)

abbrev pub Good : List Entry → Type 0
Good = AllByRecursion (λ e. bad_entry e ≡ false)

numbered_good :
    (says : ℕ → Entry) (r : ℕ) → record_fault says r 1 ≡ None → (numbers : List ℕ) → Numbered r numbers → Good (map says numbers)
numbered_good says r e [] all = tt
numbered_good says r e (n ∷ numbers) all =
    (record_good says r 1 e n all.0.0 (omega (arith, all.0.1)), numbered_good says r e numbers all.1)

pub all_good :
    (says : ℕ → Entry) (r : ℕ) → record_fault says r 1 ≡ None → (l : List (List ℕ)) → AllByRecursion (Numbered r) l → AllByRecursion Good (map (map says) l)
all_good says r e [] all = tt
all_good says r e (numbers ∷ l) all = (numbered_good says r e numbers all.0, all_good says r e l all.1)

pub short_of : (says : ℕ → Entry) (l : List (List ℕ)) → AllByRecursion (λ c. length c ≤ 32) l → AllByRecursion (λ es. length es ≤ 32) (map (map says) l)
short_of says [] all = tt
short_of says (c ∷ l) all = (omega (arith, length-map c says, all.0), short_of says l all.1)

-- the same of rows, from what is stored of them
rows_good : (rows : List Row) → Good (map entry rows) → AllByRecursion (λ row. bad_entry (entry row) ≡ false) rows
rows_good [] all = tt
rows_good (row ∷ rows) all = (all.0, rows_good rows all.1)

pub plan_good : (plan : List (List Row)) → AllByRecursion Good (map (map entry) plan) → AllByRecursion (AllByRecursion (λ row. bad_entry (entry row) ≡ false)) plan
plan_good [] all = tt
plan_good (rows ∷ plan) all = (rows_good rows all.0, plan_good plan all.1)

pub plan_short : (plan : List (List Row)) → AllByRecursion (λ es. length es ≤ 32) (map (map entry) plan) → AllByRecursion (λ rows. length rows ≤ 32) plan
plan_short [] all = tt
plan_short (rows ∷ plan) all = (omega (arith, length-map rows entry, all.0), plan_short plan all.1)

pub unless_ok : {A : Type 0} (o : Option BufferFault) (r : Result A BufferFault) (x : A) → unless o r ≡ Ok x → (o ≡ None) × (r ≡ Ok x)
unless_ok None r x e = (refl, e)
unless_ok (Some f) r x e = let z : ◌≡◌ {A = ℕ} 0 1 = cc in absurd (omega arith)

pub along_ok :
    (says : ℕ → Entry) (r : ℕ) (w : Result (List (List ℕ)) BufferFault) (stored : List (List Entry)) → along says r w ≡ Ok stored →
    (l : List (List ℕ)) × (w ≡ Ok l) × (record_fault says r 1 ≡ None) × (map (map says) l ≡ stored)
along_ok says r (Err f) stored e = let z : ◌≡◌ {A = ℕ} 0 1 = cc in absurd (omega arith)
along_ok says r (Ok l) stored e =
    let parts = unless_ok (record_fault says r 1) (Ok (map (map says) l)) stored e in
    let same : map (map says) l ≡ stored = let q = parts.1 in cc in
    (l, refl, parts.0, same)

-- what a load that was not refused says
pub taken_ok :
    (accepts : List Timing → Bool) (s : Result (List (List Entry)) BufferFault) (before after : List (List Row)) →
    Taken accepts s before (Ok tt) after →
    (stored : List (List Entry)) × (s ≡ Ok stored) × (map (map entry) after ≡ stored) × (plan_fault accepts after ≡ None)
taken_ok accepts (Err f) before after t = let q = t.0 in let z : ◌≡◌ {A = ℕ} 0 1 = cc in absurd (omega arith)
taken_ok accepts (Ok stored) before after t =
    let none = answered_none (plan_fault accepts t.0) tt (Ok tt) t.2 refl in
    let same : after ≡ t.0 = t.3 ∙ ap (λ o. replaced o before t.0) none in
    (stored, refl, ap (map (map entry)) same ∙ t.1, ap (plan_fault accepts) same ∙ none)

pub loaded_storable :
    (accepts : List Timing → Bool) (bytes : List ℕ) (before after : List (List Row)) → length before ≤ 8 →
    Loaded accepts bytes before (Ok tt) after → Storable accepts after × (length after ≡ length before)
loaded_storable accepts bytes before after eight loaded =
    let m = length before in
    let t = taken_ok accepts (entries m bytes) before after loaded in
    let w = chains (head_at bytes) (next_at m bytes) m (record_count bytes) in
    let says = entry_at m bytes in
    let u = unless_ok (header_fault m bytes) (along says (record_count bytes) w) t.0 t.1 in
    let a = along_ok says (record_count bytes) w t.0 u.1 in
    let stored : map (map entry) after ≡ map (map says) a.0 = t.2 ∙ sym a.3 in
    let numbered = chains_numbered (head_at bytes) (next_at m bytes) m (record_count bytes) a.0 a.1 in
    let sized = chains_sized (head_at bytes) (next_at m bytes) m (record_count bytes) a.0 a.1 in
    let long : length after ≡ m =
    sym (length-map after (map entry)) ∙ (ap length stored ∙ (length-map a.0 (map says) ∙ sized.0)) in (
      (
        omega arith,
        plan_short after (subst (AllByRecursion (λ es. length es ≤ 32)) (sym stored) (short_of says a.0 sized.1)),
        plan_good after (subst (AllByRecursion Good) (sym stored) (all_good says (record_count bytes) a.2 a.0 numbered)),
        t.3,
      ),
      long,
    )

pub loaded_again : (accepts : List Timing → Bool) → LoadedAgain accepts
loaded_again accepts bytes before after before' after' answer eight len loaded again =
    let kept = loaded_storable accepts bytes before after eight loaded in
    saved_loads accepts after before' after' answer kept.0 (len ∙ sym kept.1) again
