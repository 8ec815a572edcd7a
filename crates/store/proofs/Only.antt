-- The relation of loading allows what load computes, and nothing else. Assumes nothing.
use Rattle.std.proofs.Common.{◌≡◌, ℕ, zero, suc, ◌+◌, ◌-◌, ◌<◌, ◌≤◌, Bool, true, false, List, [], ◌∷◌, map, length, get_or, Some, None, Ok, Err, Option, Result, sym, refl, ap, ◌∙◌, subst, inl, inr, ⊎_elim, arith}
use Rattle.std.specs.List.{AllByRecursion}
use Rattle.std.proofs.lemmas.Bool.{ne_eqb, eq-eqb, lt-ltb, le-ltb, cases_lt}
use Rattle.model.specs.declared.timing.Timing.{Timing}
use Rattle.model.specs.declared.row.Row.{Row}
use Rattle.model.specs.Row.{timings}
use Rattle.store.specs.declared.entry.Entry.{Entry}
use Rattle.store.specs.declared.fault.BufferFault.{BufferFault}
use Rattle.store.specs.declared.fault.BufferRule.{BufferRule}
use Rattle.store.specs.Fault.{fault}
use Rattle.store.specs.Answers.{answered}
use Rattle.store.specs.Header.{header_fault, record_count}
use Rattle.store.specs.Record.{entry, entry_at, next_at, bad_entry}
use Rattle.store.specs.Records.{record_fault}
use Rattle.store.specs.Chains.{head_at, chains}
use Rattle.store.specs.Entries.{unless, along, entries}
use Rattle.store.specs.Keys.{bad_key, lowest_of, keys, keys_fault}
use Rattle.store.specs.Judged.{judge_fault}
use Rattle.store.specs.Load.{plan_fault, first_of, replaced, Taken, Loaded}
use Rattle.store.specs.Loading.{all_of, PlanOf, Loads}
use Rattle.store.proofs.ByNumber.{record_suc, record_stop, record_all}
use Rattle.store.proofs.Unpacks.{entries_along}
use Rattle.store.proofs.Loads.{loaded_refused, loaded_as}
use Rattle.store.proofs.SameRow.{plan_same}
use Rattle.store.proofs.LoadedPlans.{plan_good, all_good}
use Rattle.store.proofs.Reaches.{chains_numbered}
use Rattle.store.proofs.OneChain.{chains_are}
use Rattle.store.proofs.Lowest.{key_zero, key_is, at_key}
use Rattle.store.proofs.Meaning.{header_says, all_keyed}

-- the lowest bad record is told, or none
record_is :
    (says : ℕ → Entry) (left number n : ℕ) → number ≤ n → n < number + left → bad_entry (says n) ≡ true →
    ((k : ℕ) → number ≤ k → k < n → bad_entry (says k) ≡ false) → record_fault says left number ≡ Some (fault BufferRule.Record n)
record_is says zero number n low high bad lowest = absurd (omega arith)
record_is says (suc left) number n low high bad lowest =
    ⊎_elim
    (λ (more : number < n).
    record_suc says left number (lowest number (omega arith) more)
    ∙ record_is says left (number + 1) n (omega arith) (omega arith) bad (λ k a b. lowest k (omega arith) b))
    (λ (least : n ≤ number).
    let same : number ≡ n = omega arith in
    record_stop says left number (ap (λ q. bad_entry (says q)) same ∙ bad) ∙ ap (λ q. Some (fault BufferRule.Record q)) same)
    (cases_lt number n)

record_none :
    (says : ℕ → Entry) (left number : ℕ) → ((k : ℕ) → number ≤ k → k < number + left → bad_entry (says k) ≡ false) →
    record_fault says left number ≡ None
record_none says zero number good = record_all says 0 number refl
record_none says (suc left) number good =
    record_suc says left number (good number (omega arith) (omega arith))
    ∙ record_none says left (number + 1) (λ k a b. good k (omega arith) (omega arith))

-- the lowest processor that gets no is told, or none
judge_is :
    (accepts : List Timing → Bool) (p i : ℕ) (plan : List (List Row)) → i < length plan → accepts (timings (get_or plan i [])) ≡ false →
    ((k : ℕ) → k < i → accepts (timings (get_or plan k [])) ≡ true) → judge_fault accepts p plan ≡ Some (fault BufferRule.Judge (p + i))
judge_is accepts p i [] h no_said lowest = absurd (omega arith)
judge_is accepts p zero (rows ∷ plan) h no_said lowest =
    let same : p ≡ p + 0 = omega arith in rw no_said (ap (λ q. Some (fault BufferRule.Judge q)) same)
judge_is accepts p (suc i) (rows ∷ plan) h no_said lowest =
    let same : p + 1 + i ≡ p + suc i = omega arith in
    rw (lowest 0 (omega arith))
    (judge_is accepts (p + 1) i plan (omega arith) no_said (λ k a. lowest (suc k) (omega arith)) ∙ ap (λ q. Some (fault BufferRule.Judge q)) same)

pub judge_none :
    (accepts : List Timing → Bool) (p : ℕ) (plan : List (List Row)) → AllByRecursion (λ rows. accepts (timings rows) ≡ true) plan →
    judge_fault accepts p plan ≡ None
judge_none accepts p [] all = refl
judge_none accepts p (rows ∷ plan) all = rw all.0 (judge_none accepts (p + 1) plan all.1)

-- the rules of keys, and what comes after them
keys_told : (v c : ℕ) (later : Option BufferFault) → 1 ≤ v → first_of (keys_fault v c) later ≡ Some (fault BufferRule.Key v)
keys_told v c later some = rw (ne_eqb v 0 (λ z. omega arith))

keys_many : (v c : ℕ) (later : Option BufferFault) → v ≡ 0 → 64 < c → first_of (keys_fault v c) later ≡ Some (fault BufferRule.Keys 0)
keys_many v c later z many = rw (eq-eqb v 0 z, lt-ltb 64 c many)

pub keys_fine : (v c : ℕ) (later : Option BufferFault) → v ≡ 0 → c ≤ 64 → first_of (keys_fault v c) later ≡ later
keys_fine v c later z few = rw (eq-eqb v 0 z, le-ltb 64 c few)

module _ (accepts : List Timing → Bool) (bytes : List ℕ) (before : List (List Row)) where
  -- what an image says of a plan is what is computed
  module _ (plan : List (List Row)) (of : PlanOf bytes (length before) plan) where
    chained : chains (head_at bytes) (next_at (length before) bytes) (length before) (record_count bytes) ≡ Ok of.0
    chained =
        chains_are (head_at bytes) (next_at (length before) bytes) (record_count bytes) (length before)
        (header_says (length before) bytes of.1.header).0 (Ok of.0) of.1.lies

    recorded : record_fault (entry_at (length before) bytes) (record_count bytes) 1 ≡ None
    recorded = record_none (entry_at (length before) bytes) (record_count bytes) 1 (λ k a b. of.1.good k a (omega arith))

    unpacked : entries (length before) bytes ≡ Ok (map (map entry) plan)
    unpacked =
        let says = entry_at (length before) bytes in
        entries_along (length before) bytes of.1.header
        ∙ ap (along says (record_count bytes)) chained
        ∙ ap (λ o. unless o (Ok (map (map says) of.0))) recorded
        ∙ ap Ok (sym of.2)

    pub rows_good : AllByRecursion (AllByRecursion (λ row. bad_entry (entry row) ≡ false)) plan
    rows_good =
        let says = entry_at (length before) bytes in
        let r = record_count bytes in
        plan_good plan (subst (AllByRecursion (AllByRecursion (λ e. bad_entry e ≡ false))) (sym of.2)
        (all_good says r recorded of.0 (chains_numbered (head_at bytes) (next_at (length before) bytes) (length before) r of.0 chained)))

    keyed : AllByRecursion (λ row. 1 ≤ row.key) (all_of plan)
    keyed = all_keyed plan rows_good

  by_plan :
      (plan : List (List Row)) (o : Option BufferFault) → PlanOf bytes (length before) plan → plan_fault accepts plan ≡ o →
      Loaded accepts bytes before (answered o) (replaced o before plan)
  by_plan plan o of is = loaded_as accepts bytes before (length before) refl plan o (unpacked plan of) is

  by_chains :
      (f : BufferFault) → header_fault (length before) bytes ≡ None →
      chains (head_at bytes) (next_at (length before) bytes) (length before) (record_count bytes) ≡ Err f → Loaded accepts bytes before (Err f) before
  by_chains f header chained =
      loaded_refused accepts bytes before (length before) refl f
      (entries_along (length before) bytes header ∙ ap (along (entry_at (length before) bytes) (record_count bytes)) chained)

  pub loads_loaded :
      (answer : Result (Unit {0}) BufferFault) (after : List (List Row)) → Loads accepts bytes before answer after → Loaded accepts bytes before answer after
  loads_loaded answer after (Loads.loaded plan of law) =
      by_plan plan None of
      (keys_fine (lowest_of (bad_key plan) 0 plan) (keys plan) (judge_fault accepts 1 plan) (key_zero plan (keyed plan of) law.reservations) law.few
      ∙ judge_none accepts 1 plan law.judged)
  loads_loaded answer after (Loads.bad_header f header) =
      loaded_refused accepts bytes before (length before) refl f
      (ap (λ h. unless h (along (entry_at (length before) bytes) (record_count bytes)
      (chains (head_at bytes) (next_at (length before) bytes) (length before) (record_count bytes)))) header)
  loads_loaded answer after (Loads.bad_chain p header stuck) =
      by_chains (fault BufferRule.Chains p) header
      (chains_are (head_at bytes) (next_at (length before) bytes) (record_count bytes) (length before) (header_says (length before) bytes header).0
      (Err (fault BufferRule.Chains p)) (inl (p, refl, stuck)))
  loads_loaded answer after (Loads.left_over header over) =
      by_chains (fault BufferRule.Chains 0) header
      (chains_are (head_at bytes) (next_at (length before) bytes) (record_count bytes) (length before) (header_says (length before) bytes header).0
      (Err (fault BufferRule.Chains 0)) (inr (refl, over)))
  loads_loaded answer after (Loads.bad_record ls n header lies lowest) =
      let m = length before in
      let r = record_count bytes in
      let says = entry_at m bytes in
      loaded_refused accepts bytes before m refl (fault BufferRule.Record n)
      (entries_along m bytes header
      ∙ ap (along says r) (chains_are (head_at bytes) (next_at m bytes) r m (header_says m bytes header).0 (Ok ls) lies)
      ∙ ap (λ o. unless o (Ok (map (map says) ls))) (record_is says r 1 n lowest.some (omega (arith, lowest.within)) lowest.bad lowest.lowest))
  loads_loaded answer after (Loads.no_reservation plan key of lowest) =
      let v = lowest_of (bad_key plan) 0 plan in
      let is : v ≡ key = key_is plan key (keyed plan of) lowest in
      let some : 1 ≤ key = at_key (λ k. 1 ≤ k) key (all_of plan) lowest.there (keyed plan of) in
      by_plan plan (Some (fault BufferRule.Key key)) of
      (keys_told v (keys plan) (judge_fault accepts 1 plan) (omega arith) ∙ ap (λ k. Some (fault BufferRule.Key k)) is)
  loads_loaded answer after (Loads.many_keys plan of good many) =
      by_plan plan (Some (fault BufferRule.Keys 0)) of
      (keys_many (lowest_of (bad_key plan) 0 plan) (keys plan) (judge_fault accepts 1 plan) (key_zero plan (keyed plan of) good) many)
  loads_loaded answer after (Loads.not_judged plan p of good few lowest) =
      let place : 1 + (p - 1) ≡ p = omega (arith, lowest.some) in
      by_plan plan (Some (fault BufferRule.Judge p)) of
      (keys_fine (lowest_of (bad_key plan) 0 plan) (keys plan) (judge_fault accepts 1 plan) (key_zero plan (keyed plan of) good) few
      ∙ judge_is accepts 1 (p - 1) plan (omega (arith, lowest.some, lowest.within)) lowest.no_said
      (λ k a. let back : suc k - 1 ≡ k = omega arith in
      ap (λ q. accepts (timings (get_or plan q []))) (sym back) ∙ lowest.lowest (suc k) (omega arith) (omega (arith, lowest.some)))
      ∙ ap (λ q. Some (fault BufferRule.Judge q)) place)

  taken_one :
      (stored : Result (List (List Entry)) BufferFault) (answer answer' : Result (Unit {0}) BufferFault) (after after' : List (List Row)) →
      Taken accepts stored before answer after → Taken accepts stored before answer' after' → (answer' ≡ answer) × (after' ≡ after)
  taken_one (Err f) answer answer' after after' t u = (u.0 ∙ sym t.0, u.1 ∙ sym t.1)
  taken_one (Ok stored) answer answer' after after' t u =
      let same = plan_same u.0 t.0 (u.1 ∙ sym t.1) in (
        u.2 ∙ ap (λ rows. answered (plan_fault accepts rows)) same ∙ sym t.2,
        u.3 ∙ ap (λ rows. replaced (plan_fault accepts rows) before rows) same ∙ sym t.3,
      )

  pub loads_only :
      (answer : Result (Unit {0}) BufferFault) (after : List (List Row)) → Loaded accepts bytes before answer after →
      (answer' : Result (Unit {0}) BufferFault) (after' : List (List Row)) → Loads accepts bytes before answer' after' →
      (answer' ≡ answer) × (after' ≡ after)
  loads_only answer after loaded answer' after' other =
      taken_one (entries (length before) bytes) answer answer' after after' loaded (loads_loaded answer' after' other)
