-- The rows of a key that make one reservation are a layout. Assumes nothing.
use Rattle.std.proofs.Common.{◌≡◌, ℕ, zero, suc, ◌+◌, ◌<◌, ◌≤◌, Bool, true, false, cond, not, ◌&&◌, ◌||◌, eqb, ltb, leb, ◌⊎◌, List, [], ◌∷◌, length, is_some, sym, refl, ap, ◌∙◌, subst, inl, inr, arith}
use lib.ListN.{length-map}
use Rattle.std.proofs.lemmas.Bool.{eq-eqb, ne_eqb, eqb-true, eqb-false, leb-true, ltb-false, and_parts, or_parts, not-true, not-false, false≢true}
use Rattle.std.specs.List.{ContainsAt as Has, AllByRecursion}
use Rattle.model.specs.declared.timing.Timing.{Timing}
use Rattle.model.specs.declared.row.Kind.{Kind}
use Rattle.model.specs.declared.row.Row.{Row}
use Rattle.model.specs.Row.{kind_number, part}
use Rattle.model.specs.Limits.{timing_fault}
use Rattle.runs.specs.Plan.{Reservation}
use Rattle.board.specs.declared.admission.Placed.{Placed}
use Rattle.board.specs.declared.cut.Cut.{Cut}
use Rattle.board.specs.Split.{placed, tails}
use Rattle.store.specs.Record.{entry, bad_part, bad_entry}
use Rattle.store.specs.Keys.{times, piece, alike, once_each, stretch, stretch_of, split_of, one_reservation}
use Rattle.promise.specs.Layout.{Layout, layout, Distinct, tail_budgets}
use Rattle.promise.specs.Plan.{Plan, On, rows_at, rows_on, of_key}
use Rattle.promise.specs.Kept.{processors, Lies}
use Rattle.promise.proofs.Lists.{has_none, has_cases, has_map, has_of_map, all_one, all_from_has}
use Rattle.promise.proofs.Sorting.{Out, out_has, out_still, out_length, out_times, out_stretch, out_apart, out_shows, rows_of, find_part, TailOf, Sorted, sorted}

-- a stored tail has a part from 1 on, and its deadline is its budget
pub tail_sound : (row : Row) (j : ℕ) → row.kind ≡ Kind.Tail j → bad_entry (entry row) ≡ false → (1 ≤ j) × (row.timing.deadline ≡ row.timing.budget)
tail_sound row j is sound =
    let e = entry row in
    let x = row.timing in
    let a = or_parts (ltb 2 e.kind) (eqb e.key 0 || (bad_part e || is_some (timing_fault x.budget x.deadline x.period))) sound in
    let b = or_parts (eqb e.key 0) (bad_part e || is_some (timing_fault x.budget x.deadline x.period)) a.1 in
    let c = or_parts (bad_part e) (is_some (timing_fault x.budget x.deadline x.period)) b.1 in
    let d : (ltb j 1 || (ltb 7 j || not (eqb x.budget x.deadline))) ≡ false =
    subst (λ kind. cond (eqb (kind_number kind) 2) (ltb (part kind) 1 || (ltb 7 (part kind) || not (eqb x.budget x.deadline))) (not (eqb (part kind) 0)) ≡ false) is c.0 in
    let f = or_parts (ltb j 1) (ltb 7 j || not (eqb x.budget x.deadline)) d in
    let g = or_parts (ltb 7 j) (not (eqb x.budget x.deadline)) f.1 in
    (ltb-false j 1 f.0, sym (eqb-true x.budget x.deadline (not-false (eqb x.budget x.deadline) g.1)))

-- a head or a tail, of a period
abbrev Piece : ℕ → Placed → Type 0
Piece t y = (kind_number y.row.kind ≡ 0 → ⊥) × (y.row.timing.period ≡ t)

alike_all : (t : ℕ) (l : List Placed) → alike t (rows_of l) ≡ true → AllByRecursion (Piece t) l
alike_all t [] e = tt
alike_all t (y ∷ l) e =
    let a = and_parts (piece t y.row) (alike t (rows_of l)) e in
    let b = and_parts (not (eqb (kind_number y.row.kind) 0)) (eqb y.row.timing.period t) a.0 in
    ((eqb-false (kind_number y.row.kind) 0 (not-true (eqb (kind_number y.row.kind) 0) b.0), eqb-true y.row.timing.period t b.1), alike_all t l a.1)

once_all : (n : ℕ) (rows : List Row) → once_each n rows ≡ true → (i : ℕ) → i < n → times i rows ≡ 1
unfolding once_each
once_all zero rows e i lt = absurd (omega arith)
once_all (suc n) rows e i lt =
    let both = and_parts (eqb (times n rows) 1) (once_each n rows) e in
    go (eqb i n) refl (eqb-true (times n rows) 1 both.0) (once_all n rows both.1 i)
  where
    go : (b : Bool) → eqb i n ≡ b → times n rows ≡ 1 → (i < n → times i rows ≡ 1) → times i rows ≡ 1
    go true same here rest = ap (λ j. times j rows) (eqb-true i n same) ∙ here
    go false other here rest = let apart : i ≡ n → ⊥ = eqb-false i n other in rest (omega arith)

-- who has a part counts
part_counts : (j : ℕ) (l : List Placed) (z : Placed) → Has l z → part z.row.kind ≡ j → 0 < times j (rows_of l)
part_counts j [] z has is = absurd (has_none z has)
part_counts j (y ∷ l) z has is = go (has_cases y l z has) (λ h. part_counts j l z h is)
  where
    go : (y ≡ z) ⊎ Has l z → (Has l z → 0 < times j (rows_of l)) → 0 < times j (rows_of (y ∷ l))
    go (inl e) rest = omega (arith, ap {B = ℕ} (λ b. cond b 1 0) (eq-eqb (part y.row.kind) j (ap (λ w. part w.row.kind) e ∙ is)))
    go (inr h) rest = omega (arith, rest h)

tails_cuts : (P : Timing → Type 0) (k j : ℕ) (cuts : List Cut) → AllByRecursion (λ y. P y.row.timing) (tails k j cuts) → AllByRecursion (λ c. P c.timing) cuts
tails_cuts P k j [] all = tt
tails_cuts P k j (c ∷ cuts) all = (all.0, tails_cuts P k (j + 1) cuts all.1)

-- the timing of the whole row or head, and the tails
abbrev pub first_timing : Layout → Timing
first_timing (layout p h cuts) = h

abbrev pub tails_of : Layout → List Cut
tails_of (layout p h cuts) = cuts

-- the reservation that a layout comes to
abbrev pub laid_out : ℕ → Layout → Reservation
laid_out k o = record { key = k; budget = (first_timing o).budget + tail_budgets (tails_of o); deadline = (first_timing o).deadline + tail_budgets (tails_of o); period = (first_timing o).period }

module _ (plan : Plan) (k : ℕ) where
  -- rows of the key on processors of the plan, as records store them
  pub record Fine (y : Placed) : Type 0 where
    pub on : On plan y.processor
    pub key : y.row.key ≡ k
    pub sound : bad_entry (entry y.row) ≡ false

  abbrev Shown : List Placed → Type 0
  Shown l = (p : ℕ) → On plan p → of_key k (rows_at plan p) ≡ rows_on p l

  same_placed : (y : Placed) (kind : Kind) → y.row.key ≡ k → y.row.kind ≡ kind → placed k y.processor kind y.row.timing ≡ y
  same_placed y kind e is = λ i. record { processor = y.processor; row = record { key = sym e i; kind = sym is i; timing = y.row.timing } }

  whole_kind : (kind : Kind) → eqb (kind_number kind) 0 ≡ true → kind ≡ Kind.Whole
  whole_kind Kind.Whole e = refl
  whole_kind Kind.Head e = absurd (false≢true e)
  whole_kind (Kind.Tail j) e = absurd (false≢true e)

  lay_whole : (y : Placed) → Fine y → Shown (y ∷ []) → y.row.kind ≡ Kind.Whole → (o : Layout) × Lies plan (laid_out k o) o
  lay_whole y fine shown is = (
    layout y.processor y.row.timing [],
    record {
      on = (fine.on, tt);
      apart = ((λ h. has_none y.processor h), tt);
      shows = λ p on. shown p on ∙ ap (λ z. rows_on p (z ∷ [])) (sym (same_placed y Kind.Whole fine.key is));
      comes_to = (refl, refl, refl, tt, omega (arith, y.row.timing.constrained));
    },
  )

  head_kind : (y : Placed) (kind : Kind) → y.row.kind ≡ kind → Fine y → (kind_number kind ≡ 0 → ⊥) → part kind ≡ 0 → y.row.kind ≡ Kind.Head
  head_kind y Kind.Whole is fine some first = absurd (some refl)
  head_kind y Kind.Head is fine some first = is
  head_kind y (Kind.Tail j) is fine some first = absurd (omega (arith, (tail_sound y.row j is fine.sound).0, first))

  tail_kind : (kind : Kind) → (kind_number kind ≡ 0 → ⊥) → (part kind ≡ 0 → ⊥) → kind ≡ Kind.Tail (part kind)
  tail_kind Kind.Whole some later = absurd (some refl)
  tail_kind Kind.Head some later = absurd (later refl)
  tail_kind (Kind.Tail j) some later = refl

  -- the head and its sorted tails
  lay_head : (t : ℕ) (l : List Placed) (h : Placed) (rest : List Placed) (cuts : List Cut) → AllByRecursion Fine l → AllByRecursion (Piece t) l → Shown l → Distinct (processors l) → stretch (rows_of l) ≤ t
      → Out h l rest → h.row.kind ≡ Kind.Head → AllByRecursion (TailOf k) rest
      → ((p : ℕ) → rows_on p rest ≡ rows_on p (tails k 1 cuts)) → ((y : Placed) → Has (tails k 1 cuts) y → Has rest y) → Distinct (processors (tails k 1 cuts)) → tail_budgets cuts ≡ stretch (rows_of rest)
      → 0 < length cuts → (o : Layout) × Lies plan (laid_out k o) o
  lay_head t l h rest [] fine pieces shown apart fits out is tail shows from apart' budgets some = absurd (omega arith)
  lay_head t l h rest (c ∷ cuts) fine pieces shown apart fits out is tail shows from apart' budgets some = (
    layout h.processor h.row.timing (c ∷ cuts),
    record {
      on = ((one h (out_has out)).on, all_from_has (λ y. On plan y.processor) (tails k 1 (c ∷ cuts)) (λ y has. (one y (out_still out y (from y has))).on));
      apart = (
        (λ has. let z = has_of_map (λ w. w.processor) (tails k 1 (c ∷ cuts)) h.processor has in
            (out_apart out apart).0 (subst (Has (processors rest)) z.2 (has_map (λ w. w.processor) rest z.0 (from z.0 z.1)))),
        apart',
      );
      shows = λ p on. shown p on ∙ out_shows out apart p ∙ ap (λ r. cond (eqb h.processor p) (h.row ∷ r) r) (shows p)
          ∙ ap (λ z. rows_on p (z ∷ tails k 1 (c ∷ cuts))) (sym (same_placed h Kind.Head (one h (out_has out)).key is));
      comes_to = (
        refl,
        refl,
        refl,
        tails_cuts (λ x. (x.deadline ≡ x.budget) × (x.period ≡ h.row.timing.period)) k 1 (c ∷ cuts)
            (all_from_has (λ y. (y.row.timing.deadline ≡ y.row.timing.budget) × (y.row.timing.period ≡ h.row.timing.period)) (tails k 1 (c ∷ cuts)) (λ y has.
            let among = from y has in
            let its = all_one (TailOf k) rest y tail among in
            ((tail_sound y.row (part y.row.kind) its.1 (one y (out_still out y among)).sound).1, (of_piece y (out_still out y among)).1 ∙ sym (of_piece h (out_has out)).1))),
        omega (arith, fits, budgets, out_stretch out, head_stretch, (of_piece h (out_has out)).1),
      );
    },
  )
    where
      one : (y : Placed) → Has l y → Fine y
      one y has = all_one Fine l y fine has

      of_piece : (y : Placed) → Has l y → Piece t y
      of_piece y has = all_one (Piece t) l y pieces has

      head_stretch : stretch_of h.row ≡ h.row.timing.deadline
      head_stretch = ap (λ kind. cond (eqb (kind_number kind) 2) h.row.timing.budget h.row.timing.deadline) is

  lay_split : (t : ℕ) (l : List Placed) → 1 < length l → AllByRecursion Fine l → Shown l → Distinct (processors l) → split_of t (rows_of l) ≡ true → (o : Layout) × Lies plan (laid_out k o) o
  lay_split t l two fine shown apart is =
      lay_head t l h rest s.cuts fine pieces shown apart (leb-true (stretch (rows_of l)) t more.1) out head tail s.shows s.from s.apart s.budgets (omega (arith, s.count, out_length out))
    where
      both : (alike t (rows_of l) ≡ true) × ((once_each (length (rows_of l)) (rows_of l) && leb (stretch (rows_of l)) t) ≡ true)
      both = and_parts (alike t (rows_of l)) (once_each (length (rows_of l)) (rows_of l) && leb (stretch (rows_of l)) t) is

      more : (once_each (length (rows_of l)) (rows_of l) ≡ true) × (leb (stretch (rows_of l)) t ≡ true)
      more = and_parts (once_each (length (rows_of l)) (rows_of l)) (leb (stretch (rows_of l)) t) both.1

      pieces : AllByRecursion (Piece t) l
      pieces = alike_all t l both.0

      once : (i : ℕ) → i < length l → times i (rows_of l) ≡ 1
      once i lt = once_all (length (rows_of l)) (rows_of l) more.0 i (omega (arith, length-map l (λ y. y.row)))

      found : (y : Placed) × (m : List Placed) × Out y l m × (part y.row.kind ≡ 0)
      found = find_part 0 l (omega (arith, once 0 (omega arith)))

      h : Placed
      h = found.0

      rest : List Placed
      rest = found.1

      out : Out h l rest
      out = found.2

      head : h.row.kind ≡ Kind.Head
      head = head_kind h h.row.kind refl (all_one Fine l h fine (out_has out)) (all_one (Piece t) l h pieces (out_has out)).0 found.3

      none : times 0 (rows_of rest) ≡ 0
      none = omega (arith, once 0 (omega arith), out_times out 0, ap {B = ℕ} (λ b. cond b 1 0) (eq-eqb (part h.row.kind) 0 found.3))

      tail : AllByRecursion (TailOf k) rest
      tail = all_from_has (TailOf k) rest (λ y has. (
        (all_one Fine l y fine (out_still out y has)).key,
        tail_kind y.row.kind (all_one (Piece t) l y pieces (out_still out y has)).0 (λ first. omega (arith, none, part_counts 0 rest y has first)),
      ))

      s : Sorted k 1 rest
      s = sorted k 1 (length rest) rest tail (out_apart out apart).1 refl (λ i le lt.
          omega (arith, once i (omega (arith, out_length out)), out_times out i, ap {B = ℕ} (λ b. cond b 1 0) (ne_eqb (part h.row.kind) i (λ e. omega (arith, found.3, e)))))

  pub lay : (l : List Placed) → AllByRecursion Fine l → Shown l → Distinct (processors l) → one_reservation (rows_of l) ≡ true → (o : Layout) × Lies plan (laid_out k o) o
  lay [] fine shown apart is = absurd (false≢true is)
  lay (y ∷ []) fine shown apart is = lay_whole y fine.0 shown (whole_kind y.row.kind is)
  lay (y ∷ (z ∷ l)) fine shown apart is = lay_split y.row.timing.period (y ∷ (z ∷ l)) (omega arith) fine shown apart is
