-- A plan that every call keeps is one that an image can say. Assumes nothing.
use Rattle.std.proofs.Common.{◌≡◌, ℕ, zero, suc, ◌+◌, ◌-◌, ◌<◌, ◌≤◌, Bool, true, false, cond, not, ◌&&◌, eqb, leb, ◌⊎◌, List, [], ◌∷◌, ◌++◌, length, get_or, sym, refl, ap, ◌∙◌, subst, inl, inr, ⊎_elim, arith, length-append}
use lib.ListN.{length-map}
use Rattle.std.proofs.lemmas.Bool.{eq-eqb, ne_eqb, eqb-true, le-leb, leb-true, and_parts, and_from, cases_eq}
use Rattle.std.proofs.ByRecursion.{All-from_get_or, All-append, All-weaker}
use Rattle.std.specs.List.{ContainsAt as Has, AllByRecursion}
use Rattle.model.specs.declared.row.Row.{Row}
use Rattle.model.specs.Row.{kind_number, part, timings}
use Rattle.runs.specs.Plan.{Reservation, total}
use Rattle.board.specs.declared.admission.Placed.{Placed}
use Rattle.board.specs.declared.cut.Cut.{Cut}
use Rattle.board.specs.Split.{tails}
use Rattle.store.specs.Keys.{pieces, apart, piece, alike, times, once_each, stretch, stretch_of, split_of, one_reservation, bad_key}
use Rattle.store.specs.Loading.{all_of}
use Rattle.store.specs.Theorems.{Sayable, SayablePlan}
use Rattle.promise.specs.Layout.{Layout, layout, layout_rows, Distinct, tail_budgets}
use Rattle.promise.specs.Meaning.{Meaning, Lawful}
use Rattle.promise.specs.Plan.{Plan, On, rows_at, rows_on, of_key}
use Rattle.promise.specs.Kept.{Lies, Owned, Kept, processors}
use Rattle.promise.proofs.Lists.{has_none, has_cases, has_kept, all_one, all_from_has, rows_on_cases}
use Rattle.promise.proofs.Totals.{sum_rows, sum_placed, of_one, total_shown}
use Rattle.promise.proofs.Checked.{reservations_keys}

-- sums over the rows of a key
module _ (g : Row → ℕ) where
  sum_append : (a b : List Row) → sum_rows g (a ++ b) ≡ sum_rows g a + sum_rows g b
  sum_append [] b = omega arith
  sum_append (row ∷ a) b = omega (arith, sum_append a b)

  pieces_sum : (k : ℕ) (plan : Plan) → sum_rows g (pieces k plan) ≡ total (λ p i r. g r) k plan
  pieces_sum k [] = refl
  pieces_sum k (rows ∷ plan) = omega (arith, sum_append (of_key k rows) (pieces k plan), of_one g k rows, pieces_sum k plan)

  -- they are those over its layout
  lies_sum : (plan : Plan) (x : Reservation) (o : Layout) → Lies plan x o → sum_rows g (pieces x.key plan) ≡ sum_placed g (layout_rows x.key o)
  lies_sum plan x o lies = pieces_sum x.key plan ∙ total_shown g x.key plan (layout_rows x.key o) lies.on lies.shows

  none_all : (rows : List Row) → sum_rows g rows ≡ 0 → AllByRecursion (λ row. g row ≡ 0) rows
  none_all [] e = tt
  none_all (row ∷ rows) e = (omega arith, none_all rows (omega arith))

  placed_none : (l : List Placed) → AllByRecursion (λ y. g y.row ≡ 0) l → sum_placed g l ≡ 0
  placed_none [] all = refl
  placed_none (y ∷ l) all = omega (arith, all.0, placed_none l all.1)

-- what a test says of every row of the layout it says of every row of the key
abbrev fails : (Row → Bool) → Row → ℕ
fails test row = cond (test row) 0 1

passes : (b : Bool) → ◌≡◌ {A = ℕ} (cond b 0 1) 0 → b ≡ true
passes true e = refl
passes false e = absurd (omega arith)

lies_all : (test : Row → Bool) (plan : Plan) (x : Reservation) (o : Layout) → Lies plan x o → AllByRecursion (λ y. test y.row ≡ true) (layout_rows x.key o)
    → AllByRecursion (λ row. test row ≡ true) (pieces x.key plan)
lies_all test plan x o lies all =
    All-weaker (λ row. fails test row ≡ 0) (λ row. test row ≡ true) (λ row. passes (test row)) (pieces x.key plan)
    (none_all (fails test) (pieces x.key plan)
    (lies_sum (fails test) plan x o lies
    ∙ placed_none (fails test) (layout_rows x.key o)
    (All-weaker (λ y. test y.row ≡ true) (λ y. fails test y.row ≡ 0) (λ y e. ap (λ b. cond b 0 1) e) (layout_rows x.key o) all)))

-- lengths, parts and stretches are sums
length_sum : (rows : List Row) → length rows ≡ sum_rows (λ _. 1) rows
length_sum [] = refl
length_sum (row ∷ rows) = omega (arith, length_sum rows)

length_placed : (l : List Placed) → sum_placed (λ _. 1) l ≡ length l
length_placed [] = refl
length_placed (y ∷ l) = omega (arith, length_placed l)

abbrev is_part : ℕ → Row → ℕ
is_part j row = cond (eqb (part row.kind) j) 1 0

times_sum : (j : ℕ) (rows : List Row) → times j rows ≡ sum_rows (is_part j) rows
times_sum j [] = refl
times_sum j (row ∷ rows) = omega (arith, times_sum j rows)

stretch_sum : (rows : List Row) → stretch rows ≡ sum_rows stretch_of rows
stretch_sum [] = refl
stretch_sum (row ∷ rows) = omega (arith, stretch_sum rows)

-- the tails of a layout
length_tails : (k j : ℕ) (cuts : List Cut) → length (tails k j cuts) ≡ length cuts
length_tails k j [] = refl
length_tails k j (c ∷ cuts) = omega (arith, length_tails k (j + 1) cuts)

tails_before : (k a j : ℕ) (cuts : List Cut) → j < a → sum_placed (is_part j) (tails k a cuts) ≡ 0
tails_before k a j [] lt = refl
tails_before k a j (c ∷ cuts) lt = rw (ne_eqb a j (λ (e : a ≡ j). omega arith)) (omega (arith, tails_before k (a + 1) j cuts (omega arith)))

tails_at : (k a j : ℕ) (cuts : List Cut) → a ≤ j → j < a + length cuts → sum_placed (is_part j) (tails k a cuts) ≡ 1
tails_at k a j [] le lt = absurd (omega arith)
tails_at k a j (c ∷ cuts) le lt =
    ⊎_elim
    (λ (e : a ≡ j). rw (eq-eqb a j e) (omega (arith, tails_before k (a + 1) j cuts (omega arith))))
    (λ (ne : a ≡ j → ⊥). rw (ne_eqb a j ne) (omega (arith, tails_at k (a + 1) j cuts (omega arith) (omega arith))))
    (cases_eq a j)

tails_stretch : (k a : ℕ) (cuts : List Cut) → sum_placed stretch_of (tails k a cuts) ≡ tail_budgets cuts
tails_stretch k a [] = refl
tails_stretch k a (c ∷ cuts) = ap (λ n. c.timing.budget + n) (tails_stretch k (a + 1) cuts)

once_from : (n : ℕ) (rows : List Row) → ((j : ℕ) → j < n → times j rows ≡ 1) → once_each n rows ≡ true
unfolding once_each
once_from zero rows once = refl
once_from (suc n) rows once =
    and_from (eqb (times n rows) 1) (once_each n rows) (eq-eqb (times n rows) 1 (once n (omega arith))) (once_from n rows (λ j lt. once j (omega arith)))

alike_from : (t : ℕ) (rows : List Row) → AllByRecursion (λ row. piece t row ≡ true) rows → alike t rows ≡ true
alike_from t [] all = refl
alike_from t (row ∷ rows) all = and_from (piece t row) (alike t rows) all.0 (alike_from t rows all.1)

tails_pieces : (k a t : ℕ) (cuts : List Cut) → AllByRecursion (λ y. (y.timing.deadline ≡ y.timing.budget) × (y.timing.period ≡ t)) cuts → AllByRecursion (λ y. piece t y.row ≡ true) (tails k a cuts)
tails_pieces k a t [] all = tt
tails_pieces k a t (c ∷ cuts) all = (eq-eqb c.timing.period t all.0.1, tails_pieces k (a + 1) t cuts all.1)

-- the rows of a key make one reservation
by_period : (t : ℕ) (rows : List Row) → 2 ≤ length rows → AllByRecursion (λ row. piece t row ≡ true) rows → once_each (length rows) rows ≡ true → stretch rows ≤ t → one_reservation rows ≡ true
by_period t [] two all once fits = absurd (omega arith)
by_period t (row ∷ []) two all once fits = absurd (omega arith)
by_period t (row ∷ (next ∷ rows)) two all once fits =
    let l = row ∷ (next ∷ rows) in
    let period : t ≡ row.timing.period = sym (eqb-true row.timing.period t (and_parts (not (eqb (kind_number row.kind) 0)) (eqb row.timing.period t) all.0).1) in
    subst (λ q. split_of q l ≡ true) period
    (and_from (alike t l) (once_each (length l) l && leb (stretch l) t) (alike_from t l all) (and_from (once_each (length l) l) (leb (stretch l) t) once (le-leb (stretch l) t fits)))

by_whole : (rows : List Row) → length rows ≡ 1 → AllByRecursion (λ row. eqb (kind_number row.kind) 0 ≡ true) rows → one_reservation rows ≡ true
by_whole [] one all = absurd (omega arith)
by_whole (row ∷ []) one all = all.0
by_whole (row ∷ (next ∷ rows)) one all = absurd (omega arith)

lies_length : (plan : Plan) (x : Reservation) (o : Layout) → Lies plan x o → length (pieces x.key plan) ≡ length (layout_rows x.key o)
lies_length plan x o lies = length_sum (pieces x.key plan) ∙ lies_sum (λ _. 1) plan x o lies ∙ length_placed (layout_rows x.key o)

lies_one : (plan : Plan) (x : Reservation) (o : Layout) → Lies plan x o → one_reservation (pieces x.key plan) ≡ true
lies_one plan x (layout p h []) lies =
    by_whole (pieces x.key plan) (lies_length plan x (layout p h []) lies)
    (lies_all (λ row. eqb (kind_number row.kind) 0) plan x (layout p h []) lies (refl, tt))
lies_one plan x (layout p h (y ∷ cuts)) lies =
    by_period x.period l (omega (arith, long))
    (lies_all (piece x.period) plan x o lies
    (eq-eqb h.period x.period lies.comes_to.2, tails_pieces x.key 1 x.period (y ∷ cuts) lies.comes_to.3))
    (once_from (length l) l (λ j lt. times_sum j l ∙ lies_sum (is_part j) plan x o lies ∙ parts j (omega (arith, long))))
    (omega (arith, stretch_sum l, lies_sum stretch_of plan x o lies, tails_stretch x.key 1 (y ∷ cuts), lies.comes_to.1, lies.comes_to.4))
  where
    o : Layout
    o = layout p h (y ∷ cuts)

    l : List Row
    l = pieces x.key plan

    long : length l ≡ suc (length (y ∷ cuts))
    long = lies_length plan x o lies ∙ ap suc (length_tails x.key 1 (y ∷ cuts))

    parts : (j : ℕ) → j < suc (length (y ∷ cuts)) → sum_placed (is_part j) (layout_rows x.key (layout p h (y ∷ cuts))) ≡ 1
    parts zero lt = omega (arith, tails_before x.key 1 0 (y ∷ cuts) (omega arith))
    parts (suc j) lt =
        let none : ◌≡◌ {A = ℕ} (cond (eqb 0 (suc j)) 1 0) 0 = ap (λ b. cond b 1 0) (ne_eqb 0 (suc j) (λ (e : 0 ≡ suc j). omega arith)) in
        omega (arith, none, tails_at x.key 1 (suc j) (y ∷ cuts) (omega arith) (omega arith))

-- and stand on different processors
apart_from : (k : ℕ) (plan : Plan) → ((i : ℕ) → i < length plan → length (of_key k (get_or plan i [])) ≤ 1) → apart k plan ≡ true
apart_from k [] few = refl
apart_from k (rows ∷ plan) few =
    and_from (leb (length (of_key k rows)) 1) (apart k plan) (le-leb (length (of_key k rows)) 1 (few 0 (omega arith)))
    (apart_from k plan (λ i lt. few (suc i) (omega arith)))

few_on : (q : ℕ) (l : List Placed) → Distinct (processors l) → length (rows_on q l) ≤ 1
few_on q l apart' = go (rows_on_cases q l apart')
  where
    go : (rows_on q l ≡ []) ⊎ ((y : Placed) × Has l y × (y.processor ≡ q) × (rows_on q l ≡ y.row ∷ [])) → length (rows_on q l) ≤ 1
    go (inl e) = omega (arith, ap length e)
    go (inr y) = omega (arith, ap length y.3)

on_place : (plan : Plan) (i : ℕ) → i < length plan → On plan (i + 1)
on_place plan i lt = record { from_one = omega arith; to_last = omega arith }

lies_apart : (plan : Plan) (x : Reservation) (o : Layout) → Lies plan x o → apart x.key plan ≡ true
lies_apart plan x o lies =
    apart_from x.key plan (λ i lt.
    let back : i + 1 - 1 ≡ i = omega arith in
    let shown : of_key x.key (get_or plan i []) ≡ rows_on (i + 1) (layout_rows x.key o) =
    ap (λ j. of_key x.key (get_or plan j [])) (sym back) ∙ lies.shows (i + 1) (on_place plan i lt) in
    omega (arith, ap length shown, few_on (i + 1) (layout_rows x.key o) lies.apart))

lies_good : (plan : Plan) (x : Reservation) (o : Layout) → Lies plan x o → bad_key plan x.key ≡ false
lies_good plan x o lies =
    ap not (and_from (apart x.key plan) (one_reservation (pieces x.key plan)) (lies_apart plan x o lies) (lies_one plan x o lies))

-- at most one on each processor
apart_few : (k : ℕ) (plan : Plan) → apart k plan ≡ true → length (pieces k plan) ≤ length plan
apart_few k [] e = omega arith
apart_few k (rows ∷ plan) e =
    let both = and_parts (leb (length (of_key k rows)) 1) (apart k plan) e in
    omega (arith, length-append (of_key k rows) (pieces k plan), leb-true (length (of_key k rows)) 1 both.0, apart_few k plan both.1)

-- each is one that a record can say
fine_tails : (k a t : ℕ) (cuts : List Cut) → 1 ≤ k → 1 ≤ a → a + length cuts ≤ 8
    → AllByRecursion (λ y. (y.timing.deadline ≡ y.timing.budget) × (y.timing.period ≡ t)) cuts → AllByRecursion (λ y. Sayable y.row) (tails k a cuts)
fine_tails k a t [] key low high all = tt
fine_tails k a t (c ∷ cuts) key low high all =
    ((key, (low, omega arith, sym all.0.0)), fine_tails k (a + 1) t cuts key (omega arith) (omega arith) all.1)

lies_fine : (plan : Plan) (x : Reservation) (o : Layout) → length plan ≤ 8 → 1 ≤ x.key → Lies plan x o → AllByRecursion (λ y. Sayable y.row) (layout_rows x.key o)
lies_fine plan x (layout p h []) eight key lies = ((key, tt), tt)
lies_fine plan x (layout p h (y ∷ cuts)) eight key lies =
    let o = layout p h (y ∷ cuts) in
    let few = apart_few x.key plan (lies_apart plan x o lies) in
    let long = lies_length plan x o lies in
    ((key, tt), fine_tails x.key 1 x.period (y ∷ cuts) key (omega arith) (omega (arith, length_tails x.key 1 (y ∷ cuts))) lies.comes_to.3)

module _ {R : Type 0} (m : Meaning R) (law : Lawful m) (plan : Plan) (accepted : List Reservation) (kept : Kept m plan accepted)
    (eight : length plan ≤ 8) (keyed : AllByRecursion (λ x. 1 ≤ x.key) accepted) where
  -- a row, by the reservation that owns it
  row_fine : (i : ℕ) (row : Row) → i < length plan → Has (get_or plan i []) row → Sayable row × (bad_key plan row.key ≡ false)
  row_fine i row lt has =
      let back : i + 1 - 1 ≡ i = omega arith in
      let stands : Has (rows_at plan (i + 1)) row = subst (λ j. Has (get_or plan j []) row) (sym back) has in
      let own = all_one (Owned accepted) (rows_at plan (i + 1)) row (kept.owned (i + 1) (on_place plan i lt)) stands in
      let x = own.owner in
      let laid = all_one (λ z. (o : Layout) × Lies plan z o) accepted x kept.laid own.among in
      let key = all_one (λ z. 1 ≤ z.key) accepted x keyed own.among in
      let shown : Has (rows_on (i + 1) (layout_rows x.key laid.0)) row =
      subst (λ l. Has l row) (laid.1.shows (i + 1) (on_place plan i lt))
      (has_kept (λ r. eqb r.key x.key) (rows_at plan (i + 1)) row stands (eq-eqb row.key x.key (sym own.key))) in (
        among (i + 1) row (layout_rows x.key laid.0) laid.1.apart (lies_fine plan x laid.0 eight key laid.1) shown,
        ap (bad_key plan) (sym own.key) ∙ lies_good plan x laid.0 laid.1,
      )
    where
      among : (q : ℕ) (row : Row) (l : List Placed) → Distinct (processors l) → AllByRecursion (λ y. Sayable y.row) l → Has (rows_on q l) row → Sayable row
      among q row l apart' fine h = go (rows_on_cases q l apart')
        where
          go : (rows_on q l ≡ []) ⊎ ((y : Placed) × Has l y × (y.processor ≡ q) × (rows_on q l ≡ y.row ∷ [])) → Sayable row
          go (inl none) = absurd (has_none row (subst (λ k. Has k row) none h))
          go (inr y) =
              let same : y.0.row ≡ row = ⊎_elim (λ e. e) (λ h'. absurd (has_none row h')) (has_cases y.0.row [] row (subst (λ k. Has k row) y.3 h)) in
              subst Sayable same (all_one (λ z. Sayable z.row) l y.0 fine y.1)

  all_rows : (P : Row → Type 0) → ((i : ℕ) (row : Row) → i < length plan → Has (get_or plan i []) row → P row) → AllByRecursion (AllByRecursion P) plan
  all_rows P each = All-from_get_or (AllByRecursion P) plan [] (λ i lt. all_from_has P (get_or plan i []) (λ row has. each i row lt has))

  all_flat : (P : Row → Type 0) (q : Plan) → AllByRecursion (AllByRecursion P) q → AllByRecursion P (all_of q)
  all_flat P [] all = tt
  all_flat P (rows ∷ q) all = All-append P rows (all_of q) all.0 (all_flat P q all.1)

  each_judged : AllByRecursion (λ rows. m.accepts (timings rows) ≡ true) plan
  each_judged = All-from_get_or (λ rows. m.accepts (timings rows) ≡ true) plan [] (λ i lt.
      let back : i + 1 - 1 ≡ i = omega arith in
      subst (λ j. m.accepts (timings (get_or plan j [])) ≡ true) back (kept.judged (i + 1) (on_place plan i lt)))

  pub kept_storable : SayablePlan m.accepts plan
  kept_storable = record {
    eight = eight;
    short = All-weaker (λ rows. m.accepts (timings rows) ≡ true) (λ rows. length rows ≤ 32)
        (λ rows e. omega (arith, law.few (timings rows) e, length-map rows (λ r. r.timing))) plan each_judged;
    rows = all_rows Sayable (λ i row lt has. (row_fine i row lt has).0);
    lawful = record {
      reservations = all_flat (λ row. bad_key plan row.key ≡ false) plan (all_rows (λ row. bad_key plan row.key ≡ false) (λ i row lt has. (row_fine i row lt has).1));
      few = omega (arith, reservations_keys plan, kept.most);
      judged = each_judged;
    };
  }
