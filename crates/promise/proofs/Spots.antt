-- Where the rows of a key stand on a plan. Assumes nothing.
use Rattle.std.proofs.Common.{◌≡◌, ℕ, zero, suc, ◌+◌, ◌-◌, ◌<◌, ◌≤◌, Bool, true, false, cond, eqb, leb, List, [], ◌∷◌, ◌++◌, map, length, get_or, sym, refl, ap, ◌∙◌, arith}
use Rattle.std.proofs.lemmas.Bool.{eq-eqb, ne_eqb, eqb-true, leb-true, and_parts}
use Rattle.std.proofs.lemmas.List.{append-nil, map-append}
use Rattle.std.proofs.ByRecursion.{All-append, All-map, All-weaker}
use Rattle.std.specs.List.{ContainsAt as Has, AllByRecursion}
use Rattle.model.specs.declared.row.Row.{Row}
use Rattle.board.specs.declared.admission.Placed.{Placed}
use Rattle.store.specs.Keys.{pieces, apart}
use Rattle.promise.specs.Layout.{Distinct}
use Rattle.promise.specs.Plan.{Plan, On, rows_at, rows_on, of_key}
use Rattle.promise.specs.Kept.{processors}
use Rattle.promise.proofs.Lists.{all_one, all_from_has, has_of_kept, has_of_map}
use Rattle.promise.proofs.Sorting.{rows_of}

abbrev at : ℕ → Row → Placed
at p row = record { processor = p; row = row }

-- the rows of a key with their processors, which count from p
abbrev pub spots : ℕ → ℕ → Plan → List Placed
spots k p [] = []
spots k p (rows ∷ plan) = map (at p) (of_key k rows) ++ spots k (p + 1) plan

rows_of_at : (p : ℕ) (rows : List Row) → rows_of (map (at p) rows) ≡ rows
rows_of_at p [] = refl
rows_of_at p (row ∷ rows) = ap (λ l. row ∷ l) (rows_of_at p rows)

pub spots_pieces : (k p : ℕ) (plan : Plan) → rows_of (spots k p plan) ≡ pieces k plan
spots_pieces k p [] = refl
spots_pieces k p (rows ∷ plan) =
    map-append (λ y. y.row) (map (at p) (of_key k rows)) (spots k (p + 1) plan)
    ∙ ap (λ l. l ++ rows_of (spots k (p + 1) plan)) (rows_of_at p (of_key k rows))
    ∙ ap (λ l. of_key k rows ++ l) (spots_pieces k (p + 1) plan)

-- each stands where it says
pub record Spot (k p : ℕ) (plan : Plan) (y : Placed) : Type 0 where
  pub place : ℕ
  pub within : place < length plan
  pub is : y.processor ≡ p + place
  pub has : Has (get_or plan place []) y.row
  pub key : y.row.key ≡ k

pub spots_stand : (k p : ℕ) (plan : Plan) → AllByRecursion (Spot k p plan) (spots k p plan)
spots_stand k p [] = tt
spots_stand k p (rows ∷ plan) =
    All-append (Spot k p (rows ∷ plan)) (map (at p) (of_key k rows)) (spots k (p + 1) plan)
    (All-map (Spot k p (rows ∷ plan)) (at p) (of_key k rows) (all_from_has (λ row. Spot k p (rows ∷ plan) (at p row)) (of_key k rows) (λ row h.
    let kept = has_of_kept (λ r. eqb r.key k) rows row h in
    record { place = 0; within = omega arith; is = omega arith; has = kept.0; key = eqb-true row.key k kept.1 })))
    (All-weaker (Spot k (p + 1) plan) (Spot k p (rows ∷ plan)) (λ y s.
    record { place = suc s.place; within = omega (arith, s.within); is = omega (arith, s.is); has = s.has; key = s.key }) (spots k (p + 1) plan) (spots_stand k (p + 1) plan))

spots_later : (k p : ℕ) (plan : Plan) → AllByRecursion (λ y. p ≤ y.processor) (spots k p plan)
spots_later k p plan = All-weaker (Spot k p plan) (λ y. p ≤ y.processor) (λ y s. omega (arith, s.is)) (spots k p plan) (spots_stand k p plan)

rows_on_append : (q : ℕ) (l m : List Placed) → rows_on q (l ++ m) ≡ rows_on q l ++ rows_on q m
rows_on_append q [] m = refl
rows_on_append q (y ∷ l) m = go (eqb y.processor q) (rows_on_append q l m)
  where
    go : (b : Bool) → rows_on q (l ++ m) ≡ rows_on q l ++ rows_on q m
        → cond b (y.row ∷ rows_on q (l ++ m)) (rows_on q (l ++ m)) ≡ cond b (y.row ∷ rows_on q l) (rows_on q l) ++ rows_on q m
    go true rest = ap (λ r. y.row ∷ r) rest
    go false rest = rest

rows_on_none : (q : ℕ) (l : List Placed) → AllByRecursion (λ y. y.processor ≡ q → ⊥) l → rows_on q l ≡ []
rows_on_none q [] all = refl
rows_on_none q (y ∷ l) all = rw (ne_eqb y.processor q all.0) (rows_on_none q l all.1)

rows_on_here : (q p : ℕ) (rows : List Row) → p ≡ q → rows_on q (map (at p) rows) ≡ rows
rows_on_here q p [] e = refl
rows_on_here q p (row ∷ rows) e = rw (eq-eqb p q e) (ap (λ l. row ∷ l) (rows_on_here q p rows e))

all_at : (P : Placed → Type 0) (p : ℕ) (rows : List Row) → ((row : Row) → P (at p row)) → AllByRecursion P (map (at p) rows)
all_at P p [] h = tt
all_at P p (row ∷ rows) h = (h row, all_at P p rows h)

-- and each processor shows just those on it
spots_show : (k p i q : ℕ) (plan : Plan) → i < length plan → q ≡ p + i → rows_on q (spots k p plan) ≡ of_key k (get_or plan i [])
spots_show k p i q [] lt e = absurd (omega arith)
spots_show k p zero q (rows ∷ plan) lt e =
    rows_on_append q (map (at p) (of_key k rows)) (spots k (p + 1) plan)
    ∙ ap (λ l. l ++ rows_on q (spots k (p + 1) plan)) (rows_on_here q p (of_key k rows) (omega arith))
    ∙ ap (λ l. of_key k rows ++ l) (rows_on_none q (spots k (p + 1) plan)
    (All-weaker (λ y. p + 1 ≤ y.processor) (λ y. y.processor ≡ q → ⊥) (λ y le same. omega (arith, le, same)) (spots k (p + 1) plan) (spots_later k (p + 1) plan)))
    ∙ append-nil (of_key k rows)
spots_show k p (suc i) q (rows ∷ plan) lt e =
    rows_on_append q (map (at p) (of_key k rows)) (spots k (p + 1) plan)
    ∙ ap (λ l. l ++ rows_on q (spots k (p + 1) plan)) (rows_on_none q (map (at p) (of_key k rows)) (all_at (λ y. y.processor ≡ q → ⊥) p (of_key k rows) (λ row same. omega (arith, same))))
    ∙ spots_show k (p + 1) i q plan (omega arith) (omega arith)

pub spots_shown : (k : ℕ) (plan : Plan) (p : ℕ) → On plan p → of_key k (rows_at plan p) ≡ rows_on p (spots k 1 plan)
spots_shown k plan p on = sym (spots_show k 1 (p - 1) p plan (omega (arith, on.from_one, on.to_last)) (omega (arith, on.from_one)))

-- a key whose rows are all on different processors
pub spots_apart : (k p : ℕ) (plan : Plan) → apart k plan ≡ true → Distinct (processors (spots k p plan))
spots_apart k p [] one = tt
spots_apart k p (rows ∷ plan) one =
    let both = and_parts (leb (length (of_key k rows)) 1) (apart k plan) one in
    go (of_key k rows) (leb-true (length (of_key k rows)) 1 both.0) (spots_apart k (p + 1) plan both.1)
  where
    go : (l : List Row) → length l ≤ 1 → Distinct (processors (spots k (p + 1) plan)) → Distinct (processors (map (at p) l ++ spots k (p + 1) plan))
    go [] few rest = rest
    go (row ∷ []) few rest = (
      λ h. let z = has_of_map (λ w. w.processor) (spots k (p + 1) plan) p h in
          omega (arith, z.2, all_one (λ y. p + 1 ≤ y.processor) (spots k (p + 1) plan) z.0 (spots_later k (p + 1) plan) z.1),
      rest,
    )
    go (row ∷ (next ∷ l)) few rest = absurd (omega arith)
