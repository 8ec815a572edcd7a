-- A saved plan is read back, whole. Assumes nothing.
use Rattle.std.proofs.Common.{◌≡◌, ℕ, ◌+◌, ◌*◌, ◌≤◌, Bool, false, cond, List, [], ◌∷◌, ◌++◌, map, length, take, drop, None, Ok, Err, Result, sym, refl, ap, ◌∙◌, subst, arith}
use native.Mathlib.Nat.{mod-add-div}
use Rattle.std.specs.List.{AllByRecursion}
use Rattle.std.proofs.lemmas.List.{append-nil, drop-drop, drop_at}
use Rattle.std.proofs.lemmas.Bool.{le-ltb, eq-eqb}
use Rattle.model.specs.declared.timing.Timing.{Timing}
use Rattle.model.specs.declared.row.Row.{Row}
use Rattle.store.specs.declared.fault.BufferFault.{BufferFault}
use Rattle.store.specs.declared.fault.BufferRule.{BufferRule}
use Rattle.store.specs.Fault.{fault}
use Rattle.store.specs.Answers.{answered}
use Rattle.store.specs.Numbers.{byte_at}
use Rattle.store.specs.Image.{heads_bytes, records_bytes, row_count, image}
use Rattle.store.specs.Header.{header_fault, record_count, image_length}
use Rattle.store.specs.Record.{entry, entry_at, next_at, bad_entry}
use Rattle.store.specs.Records.{record_fault}
use Rattle.store.specs.Chains.{head_at, all_true, covered, chains}
use Rattle.store.specs.Entries.{unless, along, entries}
use Rattle.store.specs.Load.{plan_fault, replaced, Taken, Loaded}
use Rattle.store.specs.Theorems.{Storable}
use Rattle.store.proofs.Images.{length_heads}
use Rattle.store.proofs.Saves.{length_image}
use Rattle.store.proofs.ByNumber.{record_all}
use Rattle.store.proofs.Unpacks.{entries_along}
use Rattle.store.proofs.SameRow.{plan_same}
use Rattle.store.proofs.SavedChains.{flags, flags_full, numbering, plan_walks, plan_entries, plan_good}

header_none :
    (m : ℕ) (bytes : List ℕ) → 4 ≤ length bytes → byte_at bytes 0 ≡ 1 → byte_at bytes 1 ≡ m → record_count bytes ≤ 256 →
    length bytes ≡ image_length m (record_count bytes) → header_fault m bytes ≡ None
header_none m bytes a b c d e =
    rw (
      le-ltb (length bytes) 4 a,
      eq-eqb (byte_at bytes 0) 1 b,
      eq-eqb (byte_at bytes 1) m c,
      le-ltb 256 (record_count bytes) d,
      eq-eqb (length bytes) (image_length m (record_count bytes)) e,
    )

rows_le : (plan : List (List Row)) → AllByRecursion (λ rows. length rows ≤ 32) plan → row_count plan ≤ 32 * length plan
rows_le [] short = omega arith
rows_le (rows ∷ plan) short = omega (arith, rows_le plan short.1, short.0)

module _ (plan : List (List Row)) (eight : length plan ≤ 8) (short : AllByRecursion (λ rows. length rows ≤ 32) plan)
    (good : AllByRecursion (AllByRecursion (λ row. bad_entry (entry row) ≡ false)) plan) where
  count_back : record_count (image plan) ≡ row_count plan
  count_back = mod-add-div (row_count plan) 256

  few : row_count plan ≤ 256
  few = omega (arith, rows_le plan short)

  heads_here : drop 4 (image plan) ≡ heads_bytes 1 plan ++ records_bytes 1 plan
  heads_here = refl

  records_here : drop (4 + 2 * length plan + 18 * 0) (image plan) ≡ records_bytes 1 plan ++ []
  records_here =
      let n : 4 + 2 * length plan + 18 * 0 ≡ 4 + 2 * length plan = omega arith in
      ap (λ i. drop i (image plan)) n
      ∙ (sym (drop-drop (2 * length plan) 4 (image plan))
      ∙ (drop_at (heads_bytes 1 plan) (records_bytes 1 plan) (2 * length plan) (length_heads 1 plan) ∙ sym (append-nil (records_bytes 1 plan))))

  saved_header : header_fault (length plan) (image plan) ≡ None
  saved_header =
      header_none (length plan) (image plan) (omega (arith, length_image plan)) refl refl (omega (arith, count_back, few))
      (length_image plan ∙ ap (image_length (length plan)) (sym count_back))

  saved_chains :
      chains (head_at (image plan)) (next_at (length plan) (image plan)) (length plan) (record_count (image plan)) ≡ Ok (numbering 1 plan)
  saved_chains =
      let bytes = image plan in
      let r = row_count plan in
      let none : 0 + r ≡ r = omega arith in
      ap (chains (head_at bytes) (next_at (length plan) bytes) (length plan)) count_back
      ∙ (ap (covered r)
      (plan_walks (length plan) bytes r few plan 0 0 [] (records_bytes 1 plan) [] heads_here records_here short (omega arith))
      ∙ (ap (λ n. cond (all_true (take r (flags n))) (Ok (numbering 1 plan)) (Err (fault BufferRule.Chains 0))) none
      ∙ ap (λ b. cond b (Ok (numbering 1 plan)) (Err (fault BufferRule.Chains 0))) (flags_full r)))

  saved_records : record_fault (entry_at (length plan) (image plan)) (record_count (image plan)) 1 ≡ None
  saved_records =
      let bytes = image plan in
      let r = row_count plan in
      let all : r ≡ r + 0 = omega arith in
      ap (λ n. record_fault (entry_at (length plan) bytes) n 1) (count_back ∙ all)
      ∙ (plan_good (length plan) bytes plan 0 0 [] records_here good ∙ record_all (entry_at (length plan) bytes) 0 (0 + r + 1) refl)

  pub saved_entries : entries (length plan) (image plan) ≡ Ok (map (map entry) plan)
  saved_entries =
      let bytes = image plan in
      let m = length plan in
      entries_along m bytes saved_header
      ∙ (ap (along (entry_at m bytes) (record_count bytes)) saved_chains
      ∙ (ap (λ f. unless f (Ok (map (map (entry_at m bytes)) (numbering 1 plan)))) saved_records
      ∙ ap Ok (plan_entries m bytes plan 0 [] records_here)))

module _ (accepts : List Timing → Bool) where
  pub saved_loads :
      (plan before after : List (List Row)) (answer : Result (Unit {0}) BufferFault) → Storable accepts plan → length before ≡ length plan →
      Loaded accepts (image plan) before answer after → (answer ≡ Ok tt) × (after ≡ plan)
  saved_loads plan before after answer ok len loaded =
      let read = ap (λ n. entries n (image plan)) len ∙ saved_entries plan ok.0 ok.1 ok.2 in
      let t : Taken accepts (Ok (map (map entry) plan)) before answer after = subst (λ s. Taken accepts s before answer after) read loaded in
      let same = plan_same t.0 plan t.1 in
      let none = ap (plan_fault accepts) same ∙ ok.3 in
      (t.2 ∙ ap answered none, t.3 ∙ (ap (λ o. replaced o before t.0) none ∙ same))
