-- What load answers stands in the relation of loading. Assumes nothing.
use Rattle.std.proofs.Common.{◌≡◌, ℕ, ◌≤◌, Bool, true, false, cond, not, ◌||◌, eqb, ltb, List, [], ◌∷◌, map, length, is_some, Some, None, Ok, Err, Option, Result, sym, refl, ap, ◌∙◌, subst, ⊎_elim, arith}
use Rattle.std.specs.List.{AllByRecursion}
use Rattle.std.proofs.ByRecursion.{All-append}
use Rattle.std.proofs.lemmas.Bool.{eqb-true, eqb-false, eq-eqb, ne_eqb, ltb-true, ltb-false, not-false, or_parts, cases_eq, cases_Bool}
use Rattle.model.specs.declared.timing.Timing.{Timing}
use Rattle.model.specs.declared.row.Row.{Row}
use Rattle.model.specs.Limits.{timing_fault}
use Rattle.store.specs.declared.fault.BufferFault.{BufferFault}
use Rattle.store.specs.declared.fault.BufferRule.{BufferRule}
use Rattle.store.specs.Fault.{fault}
use Rattle.store.specs.Answers.{answered}
use Rattle.store.specs.Numbers.{byte_at}
use Rattle.store.specs.Header.{header_fault, record_count, image_length}
use Rattle.store.specs.Record.{entry, entry_at, next_at, bad_entry, bad_part}
use Rattle.store.specs.Records.{record_fault}
use Rattle.store.specs.Chains.{head_at, chains}
use Rattle.store.specs.Entries.{unless, along, entries}
use Rattle.store.specs.Keys.{bad_key, lowest_of, keys}
use Rattle.store.specs.Judged.{judge_fault}
use Rattle.store.specs.Load.{plan_fault, first_of, replaced, Taken, Loaded}
use Rattle.store.specs.Loading.{all_of, Lies, Stuck, LeftOver, PlanOf, Loads}
use Rattle.store.proofs.LoadedPlans.{fault_none, record_good, plan_good, all_good, unless_ok, along_ok}
use Rattle.store.proofs.Reaches.{chains_numbered}
use Rattle.store.proofs.Lying.{ChainsLie, chains_lie}
use Rattle.store.proofs.Lowest.{record_lowest, judge_lowest, judge_all, key_none, key_lowest}

pub header_says :
    (m : ℕ) (bytes : List ℕ) → header_fault m bytes ≡ None →
    (record_count bytes ≤ 256) × (length bytes ≡ image_length m (record_count bytes))
header_says m bytes e =
    let a = fault_none (ltb (length bytes) 4) _ _ e in
    let b = fault_none (not (eqb (byte_at bytes 0) 1)) _ _ a.1 in
    let c = fault_none (not (eqb (byte_at bytes 1) m)) _ _ b.1 in
    let d = fault_none (ltb 256 (record_count bytes)) _ _ c.1 in
    let f = fault_none (not (eqb (length bytes) (image_length m (record_count bytes)))) _ _ d.1 in (
      ltb-false 256 (record_count bytes) d.0,
      eqb-true (length bytes) (image_length m (record_count bytes)) (not-false (eqb (length bytes) (image_length m (record_count bytes))) f.0),
    )

keyed_entry : (row : Row) → bad_entry (entry row) ≡ false → 1 ≤ row.key
keyed_entry row good =
    let e = entry row in
    let late = bad_part e || is_some (timing_fault e.budget e.deadline e.period) in
    let rest = (or_parts (ltb 2 e.kind) (eqb e.key 0 || late) good).1 in
    omega (arith, eqb-false row.key 0 (or_parts (eqb e.key 0) late rest).0)

keyed : (rows : List Row) → AllByRecursion (λ row. bad_entry (entry row) ≡ false) rows → AllByRecursion (λ row. 1 ≤ row.key) rows
keyed [] good = tt
keyed (row ∷ rows) good = (keyed_entry row good.0, keyed rows good.1)

pub all_keyed : (plan : List (List Row)) → AllByRecursion (AllByRecursion (λ row. bad_entry (entry row) ≡ false)) plan → AllByRecursion (λ row. 1 ≤ row.key) (all_of plan)
all_keyed [] good = tt
all_keyed (rows ∷ plan) good = All-append (λ row. 1 ≤ row.key) rows (all_of plan) (keyed rows good.0) (all_keyed plan good.1)

-- no key of what an image says is 0
pub stored_keyed : (m : ℕ) (bytes : List ℕ) (plan : List (List Row)) → entries m bytes ≡ Ok (map (map entry) plan) → AllByRecursion (λ row. 1 ≤ row.key) (all_of plan)
stored_keyed m bytes plan e =
    let says = entry_at m bytes in
    let w = chains (head_at bytes) (next_at m bytes) m (record_count bytes) in
    let u = unless_ok (header_fault m bytes) (along says (record_count bytes) w) (map (map entry) plan) e in
    let a = along_ok says (record_count bytes) w (map (map entry) plan) u.1 in
    let numbered = chains_numbered (head_at bytes) (next_at m bytes) m (record_count bytes) a.0 a.1 in
    all_keyed plan (plan_good plan (subst (AllByRecursion (AllByRecursion (λ e. bad_entry e ≡ false))) a.3 (all_good says (record_count bytes) a.2 a.0 numbered)))

module _ (accepts : List Timing → Bool) (bytes : List ℕ) (before : List (List Row)) where
  settle :
      (answer a : Result (Unit {0}) BufferFault) (after b : List (List Row)) → answer ≡ a → after ≡ b → Loads accepts bytes before a b →
      Loads accepts bytes before answer after
  settle answer a after b p q l = subst (λ x. Loads accepts bytes before x after) (sym p) (subst (Loads accepts bytes before a) (sym q) l)

  by_judge :
      (plan : List (List Row)) (o : Option BufferFault) → judge_fault accepts 1 plan ≡ o → PlanOf bytes (length before) plan →
      AllByRecursion (λ row. bad_key plan row.key ≡ false) (all_of plan) → keys plan ≤ 64 → Loads accepts bytes before (answered o) (replaced o before plan)
  by_judge plan None e of sound few = Loads.loaded plan of (record { reservations = sound; few = few; judged = judge_all accepts 1 plan e })
  by_judge plan (Some f) e of sound few =
      let t = judge_lowest accepts plan f e in
      subst (λ g. Loads accepts bytes before (Err g) before) (sym t.1) (Loads.not_judged plan t.0 of sound few t.2)

  by_keys :
      (plan : List (List Row)) → PlanOf bytes (length before) plan → AllByRecursion (λ row. 1 ≤ row.key) (all_of plan) →
      Loads accepts bytes before (answered (plan_fault accepts plan)) (replaced (plan_fault accepts plan) before plan)
  by_keys plan of keyed' =
      let v = lowest_of (bad_key plan) 0 plan in
      let Goal : Option BufferFault → Type 0 = λ o. Loads accepts bytes before (answered o) (replaced o before plan) in
      let judge = judge_fault accepts 1 plan in
      ⊎_elim
      (λ (zero' : v ≡ 0).
      let none = eq-eqb v 0 zero' in
      let sound = key_none plan keyed' zero' in
      ⊎_elim
      (λ (over : ltb 64 (keys plan) ≡ true).
      let is : plan_fault accepts plan ≡ Some (fault BufferRule.Keys 0) =
      ap (λ b. first_of (cond (not b) (Some (fault BufferRule.Key v)) (cond (ltb 64 (keys plan)) (Some (fault BufferRule.Keys 0)) None)) judge) none
      ∙ ap (λ b. first_of (cond b (Some (fault BufferRule.Keys 0)) None) judge) over in
      subst Goal (sym is) (Loads.many_keys plan of sound (ltb-true 64 (keys plan) over)))
      (λ (fit : ltb 64 (keys plan) ≡ false).
      let is : plan_fault accepts plan ≡ judge =
      ap (λ b. first_of (cond (not b) (Some (fault BufferRule.Key v)) (cond (ltb 64 (keys plan)) (Some (fault BufferRule.Keys 0)) None)) judge) none
      ∙ ap (λ b. first_of (cond b (Some (fault BufferRule.Keys 0)) None) judge) fit in
      subst Goal (sym is) (by_judge plan judge refl of sound (ltb-false 64 (keys plan) fit)))
      (cases_Bool (ltb 64 (keys plan))))
      (λ (some' : v ≡ 0 → ⊥).
      let is : plan_fault accepts plan ≡ Some (fault BufferRule.Key v) =
      ap (λ b. first_of (cond (not b) (Some (fault BufferRule.Key v)) (cond (ltb 64 (keys plan)) (Some (fault BufferRule.Keys 0)) None)) judge) (ne_eqb v 0 some') in
      subst Goal (sym is) (Loads.no_reservation plan v of (key_lowest plan v keyed' refl (omega arith))))
      (cases_eq v 0)

  by_records :
      (l : List (List ℕ)) (o : Option BufferFault) (answer : Result (Unit {0}) BufferFault) (after : List (List Row)) →
      header_fault (length before) bytes ≡ None → chains (head_at bytes) (next_at (length before) bytes) (length before) (record_count bytes) ≡ Ok l →
      record_fault (entry_at (length before) bytes) (record_count bytes) 1 ≡ o →
      Taken accepts (unless o (Ok (map (map (entry_at (length before) bytes)) l))) before answer after → Loads accepts bytes before answer after
  by_records l o answer after header chained recorded t = go o recorded t
    where
      lies : Lies (head_at bytes) (next_at (length before) bytes) (length before) (record_count bytes) l
      lies =
          subst (ChainsLie (head_at bytes) (next_at (length before) bytes) (length before) (record_count bytes)) chained
          (chains_lie (head_at bytes) (next_at (length before) bytes) (length before) (record_count bytes) (header_says (length before) bytes header).0)

      go :
          (o : Option BufferFault) → record_fault (entry_at (length before) bytes) (record_count bytes) 1 ≡ o →
          Taken accepts (unless o (Ok (map (map (entry_at (length before) bytes)) l))) before answer after → Loads accepts bytes before answer after
      go (Some f) recorded t =
          let low = record_lowest (entry_at (length before) bytes) (record_count bytes) f recorded in
          settle answer (Err (fault BufferRule.Record low.0)) after before (t.0 ∙ ap Err low.1) t.1 (Loads.bad_record l low.0 header lies low.2)
      go None recorded t =
          let says = entry_at (length before) bytes in
          let good : (n : ℕ) → 1 ≤ n → n ≤ record_count bytes → bad_entry (says n) ≡ false = λ n a b. record_good says (record_count bytes) 1 recorded n a (omega arith) in
          let of : PlanOf bytes (length before) t.0 =
          (l, record { header = header; lies = lies; good = good }, t.1) in
          let numbered = chains_numbered (head_at bytes) (next_at (length before) bytes) (length before) (record_count bytes) l chained in
          let rows_good = plan_good t.0 (subst (AllByRecursion (AllByRecursion (λ e. bad_entry e ≡ false))) (sym t.1) (all_good says (record_count bytes) recorded l numbered)) in
          settle answer _ after _ t.2 t.3 (by_keys t.0 of (all_keyed t.0 rows_good))

  by_chains :
      (w : Result (List (List ℕ)) BufferFault) (answer : Result (Unit {0}) BufferFault) (after : List (List Row)) →
      header_fault (length before) bytes ≡ None → chains (head_at bytes) (next_at (length before) bytes) (length before) (record_count bytes) ≡ w →
      Taken accepts (along (entry_at (length before) bytes) (record_count bytes) w) before answer after → Loads accepts bytes before answer after
  by_chains (Ok l) answer after header chained t =
      by_records l (record_fault (entry_at (length before) bytes) (record_count bytes) 1) answer after header chained refl t
  by_chains (Err f) answer after header chained t =
      let head = head_at bytes in
      let next = next_at (length before) bytes in
      let r = record_count bytes in
      ⊎_elim
      (λ (q : (p : ℕ) × (f ≡ fault BufferRule.Chains p) × Stuck head next (length before) r p).
      settle answer (Err (fault BufferRule.Chains q.0)) after before (t.0 ∙ ap Err q.1) t.1 (Loads.bad_chain q.0 header q.2))
      (λ (q : (f ≡ fault BufferRule.Chains 0) × LeftOver head next (length before) r).
      settle answer (Err (fault BufferRule.Chains 0)) after before (t.0 ∙ ap Err q.0) t.1 (Loads.left_over header q.1))
      (subst (ChainsLie head next (length before) r) chained (chains_lie head next (length before) r (header_says (length before) bytes header).0))

  by_header :
      (h : Option BufferFault) (answer : Result (Unit {0}) BufferFault) (after : List (List Row)) → header_fault (length before) bytes ≡ h →
      Taken accepts
      (unless h (along (entry_at (length before) bytes) (record_count bytes)
      (chains (head_at bytes) (next_at (length before) bytes) (length before) (record_count bytes)))) before answer after →
      Loads accepts bytes before answer after
  by_header (Some f) answer after header t = settle answer (Err f) after before t.0 t.1 (Loads.bad_header f header)
  by_header None answer after header t =
      by_chains (chains (head_at bytes) (next_at (length before) bytes) (length before) (record_count bytes)) answer after header refl t

  pub means : (answer : Result (Unit {0}) BufferFault) (after : List (List Row)) → Loaded accepts bytes before answer after → Loads accepts bytes before answer after
  means answer after loaded = by_header (header_fault (length before) bytes) answer after refl loaded
