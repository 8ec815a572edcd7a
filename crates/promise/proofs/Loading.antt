-- A load that is not refused leaves what every call keeps, for the reservations that the records say. Assumes nothing.
use Rattle.std.proofs.Common.{◌≡◌, ℕ, ◌+◌, ◌-◌, ◌<◌, ◌≤◌, Bool, true, false, cond, not, ◌&&◌, ◌||◌, eqb, ltb, ◌⊎◌, List, [], ◌∷◌, map, length, get_or, is_some, None, Ok, filter, sym, refl, ap, ◌∙◌, subst, inl, inr, ⊎_elim, arith}
use Rattle.std.proofs.lemmas.Bool.{eq-eqb, eqb-false, and_parts, or_parts, not-true, not-false, true≢false}
use Rattle.std.proofs.ByRecursion.{All-get_or, All-from_get_or, All-map, all_kept_by, All-weaker}
use Rattle.std.specs.List.{ContainsAt as Has, AllByRecursion}
use Rattle.model.specs.declared.timing.Timing.{Timing}
use Rattle.model.specs.declared.row.Kind.{Kind}
use Rattle.model.specs.declared.row.Row.{Row}
use Rattle.model.specs.Row.{kind_number, timings, is_tail}
use Rattle.model.specs.Limits.{timing_fault}
use Rattle.runs.specs.Plan.{Reservation, sum_at, total}
use Rattle.board.specs.declared.admission.Placed.{Placed}
use Rattle.board.specs.declared.cut.Cut.{Cut}
use Rattle.board.specs.Split.{tails}
use Rattle.store.specs.declared.entry.Entry.{Entry}
use Rattle.store.specs.Record.{entry, bad_part, bad_entry}
use Rattle.store.specs.Keys.{pieces, apart, one_reservation, bad_key, keys, key_fault}
use Rattle.store.specs.Judged.{judge_fault}
use Rattle.store.specs.Entries.{entries}
use Rattle.store.specs.Load.{plan_fault, Loaded}
use Rattle.promise.specs.Layout.{Layout, layout, layout_rows, Distinct, tail_budgets}
use Rattle.promise.specs.Meaning.{Meaning}
use Rattle.promise.specs.Plan.{Plan, On, rows_at, rows_on}
use Rattle.promise.specs.Kept.{Lies, Owned, Kept}
use Rattle.promise.specs.Stored.{records, sum_of, tail_budget, is_first, reservation_of, stored_reservations}
use Rattle.promise.proofs.Lists.{has_none, has_here, has_there, has_cases, has_map, has_of_map, has_kept, has_of_kept, all_one, all_from_has, rows_on_cases}
use Rattle.promise.proofs.Standing.{one, ones, layout_one}
use Rattle.promise.proofs.Admitting.{lies_first}
use Rattle.promise.proofs.Totals.{sum_placed, total_shown, lies_budget}
use Rattle.promise.proofs.Recorded.{sum_by, sum_all, sum_some, Recorded, entries_recorded, row_recorded, record_stands}
use Rattle.promise.proofs.Spots.{spots, Spot, spots_pieces, spots_stand, spots_shown, spots_apart}
use Rattle.promise.proofs.Laying.{Fine, lay, laid_out, first_timing, tails_of}
use Rattle.promise.proofs.Checked.{keys_sound, reservations_keys, judge_sound, plan_sound, taken_sound}

-- what counts of a record for a key
abbrev counting : (Entry → ℕ) → ℕ → Entry → ℕ
counting f k e = cond (eqb e.key k) (f e) 0

sum_of_by : (f : Entry → ℕ) (k : ℕ) (l : List Entry) → sum_of f k l ≡ sum_by (counting f k) l
sum_of_by f k [] = refl
sum_of_by f k (e ∷ l) = ap (λ n. counting f k e + n) (sum_of_by f k l)

rows_sum : (f : Entry → ℕ) (k : ℕ) (rows : List Row) → sum_at (λ i r. cond (eqb r.key k) (f (entry r)) 0) rows ≡ sum_by (λ row. counting f k (entry row)) rows
rows_sum f k [] = refl
rows_sum f k (row ∷ rows) = ap (λ n. counting f k (entry row) + n) (rows_sum f k rows)

total_all : (f : Entry → ℕ) (k : ℕ) (plan : Plan) → total (λ p i r. f (entry r)) k plan ≡ sum_all (λ row. counting f k (entry row)) plan
total_all f k [] = refl
total_all f k (rows ∷ plan) = omega (arith, rows_sum f k rows, total_all f k plan)

-- a whole or a head counts one
abbrev one_first : Entry → ℕ
one_first e = cond (is_first e) 1 0

kind_first : (kind : Kind) → ltb (kind_number kind) 2 ≡ not (is_tail kind)
kind_first Kind.Whole = refl
kind_first Kind.Head = refl
kind_first (Kind.Tail j) = refl

one_same : (row : Row) → one_first (entry row) ≡ one row
one_same row = by_kind row.kind
  where
    by_kind : (kind : Kind) → ◌≡◌ {A = ℕ} (cond (ltb (kind_number kind) 2) 1 0) (cond (is_tail kind) 0 1)
    by_kind Kind.Whole = refl
    by_kind Kind.Head = refl
    by_kind (Kind.Tail j) = refl

ones_placed : (l : List Placed) → sum_placed (λ r. one_first (entry r)) l ≡ ones l
ones_placed [] = refl
ones_placed (y ∷ l) = omega (arith, one_same y.row, ones_placed l)

-- the tails of a layout have its tails' budgets, and its first row has none
tails_sum : (k j : ℕ) (cuts : List Cut) → sum_placed (λ r. tail_budget (entry r)) (tails k j cuts) ≡ tail_budgets cuts
tails_sum k j [] = refl
tails_sum k j (c ∷ cuts) = ap (λ n. c.timing.budget + n) (tails_sum k (j + 1) cuts)

layout_tails : (k : ℕ) (o : Layout) → sum_placed (λ r. tail_budget (entry r)) (layout_rows k o) ≡ tail_budgets (tails_of o)
layout_tails k (layout p x []) = refl
layout_tails k (layout p x (c ∷ cuts)) = omega (arith, tails_sum k 1 (c ∷ cuts))

-- its row that is no tail has its first timing
tails_are : (k j : ℕ) (cuts : List Cut) → AllByRecursion (λ y. is_tail y.row.kind ≡ true) (tails k j cuts)
tails_are k j [] = tt
tails_are k j (c ∷ cuts) = (refl, tails_are k (j + 1) cuts)

layout_first : (k : ℕ) (o : Layout) (y : Placed) → Has (layout_rows k o) y → is_tail y.row.kind ≡ false → y.row.timing ≡ first_timing o
layout_first k (layout p x []) y has no-tail =
    ⊎_elim (λ e. ap (λ z. z.row.timing) (sym e)) (λ h. absurd (has_none y h)) (has_cases (record { processor = p; row = record { key = k; kind = Kind.Whole; timing = x } }) [] y has)
layout_first k (layout p x (c ∷ cuts)) y has no-tail =
    ⊎_elim (λ e. ap (λ z. z.row.timing) (sym e))
    (λ h. absurd (true≢false (sym (all_one (λ z. is_tail z.row.kind ≡ true) (tails k 1 (c ∷ cuts)) y (tails_are k 1 (c ∷ cuts)) h) ∙ no-tail)))
    (has_cases (record { processor = p; row = record { key = k; kind = Kind.Head; timing = x } }) (tails k 1 (c ∷ cuts)) y has)

first_laid : (plan : Plan) (x : Reservation) (o : Layout) (p : ℕ) (row : Row) → Lies plan x o → On plan p → Has (rows_at plan p) row → row.key ≡ x.key → is_tail row.kind ≡ false
    → row.timing ≡ first_timing o
first_laid plan x o p row lies on has key no-tail = go (rows_on_cases p (layout_rows x.key o) lies.apart) shown
  where
    shown : Has (rows_on p (layout_rows x.key o)) row
    shown = subst (λ l. Has l row) (lies.shows p on) (has_kept (λ r. eqb r.key x.key) (rows_at plan p) row has (eq-eqb row.key x.key key))

    go : (rows_on p (layout_rows x.key o) ≡ []) ⊎ ((y : Placed) × Has (layout_rows x.key o) y × (y.processor ≡ p) × (rows_on p (layout_rows x.key o) ≡ y.row ∷ []))
        → Has (rows_on p (layout_rows x.key o)) row → row.timing ≡ first_timing o
    go (inl none) h = absurd (has_none row (subst (λ l. Has l row) none h))
    go (inr y) h =
        let same : y.0.row ≡ row = ⊎_elim (λ e. e) (λ h'. absurd (has_none row h')) (has_cases y.0.row [] row (subst (λ l. Has l row) y.3 h)) in
        ap (λ r. r.timing) (sym same) ∙ layout_first x.key o y.0 y.1 (ap (λ r. is_tail r.kind) same ∙ no-tail)

-- a stored row's key is not 0
entry_keyed : (e : Entry) → bad_entry e ≡ false → e.key ≡ 0 → ⊥
entry_keyed e sound =
    let late = bad_part e || is_some (timing_fault e.budget e.deadline e.period) in
    let a = or_parts (ltb 2 e.kind) (eqb e.key 0 || late) sound in
    eqb-false e.key 0 (or_parts (eqb e.key 0) late a.1).0

-- keys of which there is one whole or head
distinct_firsts : (all l : List Entry) → ((e : Entry) → Has l e → is_first e ≡ true → sum_of one_first e.key l ≤ 1)
    → Distinct (map (λ x. x.key) (map (reservation_of all) (filter is_first l)))
distinct_firsts all [] once = tt
distinct_firsts all (x ∷ l) once =
    go (is_first x) refl (distinct_firsts all l (λ e has is. omega (arith, once e (has_there x l e has) is)))
  where
    twice : is_first x ≡ true → Has (map (λ z. z.key) (map (reservation_of all) (filter is_first l))) x.key → ⊥
    twice is has =
        let r = has_of_map (λ z. z.key) (map (reservation_of all) (filter is_first l)) x.key has in
        let z = has_of_map (reservation_of all) (filter is_first l) r.0 r.1 in
        let e = z.0 in
        let kept = has_of_kept is_first l e z.1 in
        let key : e.key ≡ x.key = ap (λ w. w.key) z.2 ∙ r.2 in
        let some : 0 < sum_by (counting one_first x.key) l =
        sum_some (counting one_first x.key) l e kept.0 (rw (eq-eqb e.key x.key key, kept.1) (omega arith)) in
        let here : counting one_first x.key x ≡ 1 = rw (eq-eqb x.key x.key refl, is) in
        omega (arith, once x (has_here x l) is, some, here, sum_of_by one_first x.key l)

    go : (b : Bool) → is_first x ≡ b → Distinct (map (λ z. z.key) (map (reservation_of all) (filter is_first l)))
        → Distinct (map (λ z. z.key) (map (reservation_of all) (cond b (x ∷ filter is_first l) (filter is_first l))))
    go true is rest = (twice is, rest)
    go false is rest = rest

module _ (all : List Entry) (plan : Plan) (recorded : Recorded all plan) (no_fault : key_fault plan ≡ None) where
  sound_row : (i : ℕ) (row : Row) → i < length plan → Has (get_or plan i []) row → bad_entry (entry row) ≡ false
  sound_row i row lt has = all_one (λ e. bad_entry e ≡ false) all (entry row) recorded.sound (row_recorded all plan recorded i row lt has)

  rules : AllByRecursion (AllByRecursion (λ row. bad_key plan row.key ≡ false)) plan × (keys plan ≤ 64)
  rules = keys_sound plan
      (All-from_get_or (AllByRecursion (λ row. row.key ≡ 0 → ⊥)) plan [] (λ i lt. all_from_has (λ row. row.key ≡ 0 → ⊥) (get_or plan i []) (λ row has. entry_keyed (entry row) (sound_row i row lt has)))) no_fault

  -- the rows of a key that stands are a layout
  laid_key : (i : ℕ) (row : Row) → i < length plan → Has (get_or plan i []) row → (o : Layout) × Lies plan (laid_out row.key o) o
  laid_key i row lt has =
      lay plan k (spots k 1 plan) fine (spots_shown k plan) (spots_apart k 1 plan both.0)
      (subst (λ l. one_reservation l ≡ true) (sym (spots_pieces k 1 plan)) both.1)
    where
      k : ℕ
      k = row.key

      good : bad_key plan k ≡ false
      good = all_one (λ r. bad_key plan r.key ≡ false) (get_or plan i []) row (All-get_or (AllByRecursion (λ r. bad_key plan r.key ≡ false)) plan i [] lt rules.0) has

      both : (apart k plan ≡ true) × (one_reservation (pieces k plan) ≡ true)
      both = and_parts (apart k plan) (one_reservation (pieces k plan)) (not-false (apart k plan && one_reservation (pieces k plan)) good)

      fine : AllByRecursion (Fine plan k) (spots k 1 plan)
      fine = all_from_has (Fine plan k) (spots k 1 plan) (λ y h.
          let s = all_one (Spot k 1 plan) (spots k 1 plan) y (spots_stand k 1 plan) h in
          record {
            on = record { from_one = omega (arith, s.is); to_last = omega (arith, s.is, s.within) };
            key = s.key;
            sound = sound_row s.place y.row s.within s.has;
          })

  -- what the records of its key come to
  key_sums : (f : Entry → ℕ) (k : ℕ) → sum_of f k all ≡ total (λ p i r. f (entry r)) k plan
  key_sums f k = sum_of_by f k all ∙ sym (recorded.sums (counting f k)) ∙ sym (total_all f k plan)

  on_place : (i : ℕ) → i < length plan → On plan (i + 1)
  on_place i lt = record { from_one = omega arith; to_last = omega arith }

  -- a record of a whole or a head, its row, and the layout of its key
  module _ (e : Entry) (first : is_first e ≡ true) (i : ℕ) (row : Row) (lt : i < length plan) (stands : Has (get_or plan i []) row) (same : entry row ≡ e)
      (o : Layout) (lies : Lies plan (laid_out row.key o) o) where
    key : row.key ≡ e.key
    key = ap (λ z. z.key) same

    timing : row.timing ≡ first_timing o
    timing = first_laid plan (laid_out row.key o) o (i + 1) row lies (on_place i lt) (subst (λ j. Has (get_or plan j []) row) (omega arith) stands) refl
        (not-true (is_tail row.kind) (sym (kind_first row.kind) ∙ ap is_first same ∙ first))

    sum_is : (f : Entry → ℕ) → sum_of f e.key all ≡ total (λ p j r. f (entry r)) row.key plan
    sum_is f = ap (λ k. sum_of f k all) (sym key) ∙ key_sums f row.key

    shown_sum : (f : Entry → ℕ) → sum_of f e.key all ≡ sum_placed (λ r. f (entry r)) (layout_rows row.key o)
    shown_sum f = sum_is f ∙ total_shown (λ r. f (entry r)) row.key plan (layout_rows row.key o) lies.on lies.shows

    budget : sum_of (λ z. z.budget) e.key all ≡ (first_timing o).budget + tail_budgets (tails_of o)
    budget = sum_is (λ z. z.budget) ∙ lies_budget plan (laid_out row.key o) o lies

    deadline : e.deadline + sum_of tail_budget e.key all ≡ (first_timing o).deadline + tail_budgets (tails_of o)
    deadline = omega (arith, ap (λ z. z.deadline) same, ap (λ x. x.deadline) timing, shown_sum tail_budget, layout_tails row.key o)

    period : e.period ≡ (first_timing o).period
    period = ap (λ z. z.period) (sym same) ∙ ap (λ x. x.period) timing

    record_lies : Lies plan (reservation_of all e) o
    record_lies = subst (λ x. Lies plan x o) (λ j. record { key = key j; budget = sym budget j; deadline = sym deadline j; period = sym period j }) lies

    record_once : sum_of one_first e.key all ≤ 1
    record_once = omega (arith, shown_sum one_first, ones_placed (layout_rows row.key o), layout_one row.key o)

  -- the reservation of a whole or a head lies on the plan, and is its key's only one
  stored_laid : (e : Entry) → Has all e → is_first e ≡ true → ((o : Layout) × Lies plan (reservation_of all e) o) × (sum_of one_first e.key all ≤ 1)
  stored_laid e has first =
      let found = record_stands all plan recorded e has in
      let row = found.2.0 in
      let its = laid_key found.0 row found.1 found.2.1 in (
        (its.0, record_lies e first found.0 row found.1 found.2.1 found.2.2 its.0 its.1),
        record_once e first found.0 row found.1 found.2.1 found.2.2 its.0 its.1,
      )

  -- each row has its whole or head among the records
  stored_owned : (i : ℕ) (row : Row) → i < length plan → Has (get_or plan i []) row → Owned (map (reservation_of all) (filter is_first all)) row
  stored_owned i row lt has =
      let its = laid_key i row lt has in
      let f = lies_first plan (laid_out row.key its.0) its.0 its.1 in
      let p = f.0 in
      let r = f.2.0 in
      let among : Has all (entry r) = row_recorded all plan recorded (p - 1) r (omega (arith, f.1.from_one, f.1.to_last)) f.2.1 in
      let is : is_first (entry r) ≡ true = kind_first r.kind ∙ ap not f.2.3 in
      record {
        owner = reservation_of all (entry r);
        among = has_map (reservation_of all) (filter is_first all) (entry r) (has_kept is_first all (entry r) among is);
        key = f.2.2;
      }

pub kept_loads : {R : Type 0} (m : Meaning R) (bytes : List ℕ) (plan after : Plan) → Loaded m.accepts bytes plan (Ok tt) after
    → Kept m after (stored_reservations bytes) × (length after ≡ length plan)
kept_loads m bytes plan after loaded = (
  record {
    judged = λ p on. All-get_or (λ rows. m.accepts (timings rows) ≡ true) after (p - 1) [] (omega (arith, on.from_one, on.to_last)) (judge_sound m.accepts 1 after rules_kept.1);
    distinct = distinct_firsts all all (λ e has is. (stored_laid all after recorded rules_kept.0 e has is).1);
    laid = all_from_has (λ x. (o : Layout) × Lies after x o) (stored_reservations bytes) (λ x has.
        let z = has_of_map (reservation_of all) (filter is_first all) x has in
        let kept = has_of_kept is_first all z.0 z.1 in
        subst (λ w. (o : Layout) × Lies after w o) z.2 (stored_laid all after recorded rules_kept.0 z.0 kept.0 kept.1).0);
    owned = λ p on. all_from_has (Owned (stored_reservations bytes)) (rows_at after p) (λ row has.
        stored_owned all after recorded rules_kept.0 (p - 1) row (omega (arith, on.from_one, on.to_last)) has);
    most = omega (arith, reservations_keys after, (rules all after recorded rules_kept.0).1);
  },
  said.1,
)
  where
    all : List Entry
    all = records bytes

    taken : (entries (length plan) bytes ≡ Ok (map (map entry) after)) × (plan_fault m.accepts after ≡ None)
    taken = taken_sound m.accepts (entries (length plan) bytes) plan after loaded

    said : Recorded (records bytes) after × (length after ≡ length plan)
    said = entries_recorded (length plan) bytes after taken.0

    recorded : Recorded all after
    recorded = said.0

    rules_kept : (key_fault after ≡ None) × (judge_fault m.accepts 1 after ≡ None)
    rules_kept = plan_sound m.accepts after taken.1

-- the keys of its reservations are not 0
pub keyed_loads : (accepts : List Timing → Bool) (bytes : List ℕ) (plan after : Plan) → Loaded accepts bytes plan (Ok tt) after → AllByRecursion (λ x. 1 ≤ x.key) (stored_reservations bytes)
keyed_loads accepts bytes plan after loaded =
    let all = records bytes in
    let taken = taken_sound accepts (entries (length plan) bytes) plan after loaded in
    let said = entries_recorded (length plan) bytes after taken.0 in
    All-map (λ x. 1 ≤ x.key) (reservation_of all) (filter is_first all)
    (all_kept_by is_first (λ e. 1 ≤ e.key) all (All-weaker (λ e. bad_entry e ≡ false) (λ e. 1 ≤ e.key) keyed all said.0.sound))
  where
    keyed : (e : Entry) → bad_entry e ≡ false → 1 ≤ e.key
    keyed e sound = let some : e.key ≡ 0 → ⊥ = entry_keyed e sound in omega arith
