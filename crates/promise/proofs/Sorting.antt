-- Rows on different processors, put in the order of their parts. Assumes nothing.
use Rattle.std.proofs.Common.{◌≡◌, ℕ, zero, suc, ◌+◌, ◌<◌, ◌≤◌, Bool, true, false, cond, eqb, ◌⊎◌, List, [], ◌∷◌, map, length, sym, refl, ap, ◌∙◌, subst, inl, inr, ⊎_elim, arith}
use Rattle.std.proofs.lemmas.Bool.{ne_eqb, eqb-true}
use Rattle.std.specs.List.{ContainsAt as Has, AllByRecursion}
use Rattle.model.specs.declared.row.Kind.{Kind}
use Rattle.model.specs.declared.row.Row.{Row}
use Rattle.model.specs.Row.{kind_number, part}
use Rattle.board.specs.declared.admission.Placed.{Placed}
use Rattle.board.specs.declared.cut.Cut.{Cut}
use Rattle.board.specs.Split.{placed, tails}
use Rattle.store.specs.Keys.{times, stretch, stretch_of}
use Rattle.promise.specs.Layout.{Distinct, tail_budgets}
use Rattle.promise.specs.Plan.{rows_on}
use Rattle.promise.specs.Kept.{processors}
use Rattle.promise.proofs.Lists.{has_here, has_there, has_cases, has_map, has_of_map, all_one, all_from_has}

-- one of a list, and the others
pub data Out {X : Type 0} : X → List X → List X → Type 0 where
  here : {y : X} {l : List X} → Out y (y ∷ l) l
  there : {x y : X} {l k : List X} → Out y l k → Out y (x ∷ l) (x ∷ k)

module _ {X : Type 0} where
  pub out_has : {y : X} {l k : List X} → Out y l k → Has l y
  out_has (here {y = y} {l = l}) = has_here y l
  out_has (there {x = x} {y = y} {l = l} o) = has_there x l y (out_has o)

  pub out_still : {y : X} {l k : List X} → Out y l k → (z : X) → Has k z → Has l z
  out_still (here {y = y} {l = l}) z h = has_there y l z h
  out_still (there {x = x} {y = y} {l = l} {k = k} o) z h = go (has_cases x k z h) (out_still o z)
    where
      go : (x ≡ z) ⊎ Has k z → (Has k z → Has l z) → Has (x ∷ l) z
      go (inl e) rest = subst (Has (x ∷ l)) e (has_here x l)
      go (inr h') rest = has_there x l z (rest h')

  pub out_length : {y : X} {l k : List X} → Out y l k → length l ≡ suc (length k)
  out_length here = refl
  out_length (there o) = ap suc (out_length o)

abbrev pub rows_of : List Placed → List Row
rows_of = map (λ y. y.row)

pub out_times : {y : Placed} {l k : List Placed} → Out y l k → (j : ℕ) → times j (rows_of l) ≡ cond (eqb (part y.row.kind) j) 1 0 + times j (rows_of k)
out_times here j = refl
out_times (there o) j = omega (arith, out_times o j)

pub out_stretch : {y : Placed} {l k : List Placed} → Out y l k → stretch (rows_of l) ≡ stretch_of y.row + stretch (rows_of k)
out_stretch here = refl
out_stretch (there o) = omega (arith, out_stretch o)

pub out_apart : {y : Placed} {l k : List Placed} → Out y l k → Distinct (processors l) → (Has (processors k) y.processor → ⊥) × Distinct (processors k)
out_apart here apart = apart
out_apart (there {x = x} {y = y} {l = l} {k = k} o) apart = go (out_apart o apart.1) (out_has o) (out_still o)
  where
    go : (Has (processors k) y.processor → ⊥) × Distinct (processors k) → Has l y → ((z : Placed) → Has k z → Has l z)
        → (Has (x.processor ∷ processors k) y.processor → ⊥) × Distinct (x.processor ∷ processors k)
    go rest has still = (
      λ h. ⊎_elim (λ e. apart.0 (subst (Has (processors l)) (sym e) (has_map (λ z. z.processor) l y has))) rest.0 (has_cases x.processor (processors k) y.processor h),
      (
        (λ h. let z = has_of_map (λ w. w.processor) k x.processor h in
            apart.0 (subst (Has (processors l)) z.2 (has_map (λ w. w.processor) l z.0 (still z.0 z.1)))),
        rest.1,
      ),
    )

-- on each processor nothing changes when it goes first
pub out_shows : {y : Placed} {l k : List Placed} → Out y l k → Distinct (processors l) → (p : ℕ) → rows_on p l ≡ rows_on p (y ∷ k)
out_shows here apart p = refl
out_shows (there {x = x} {y = y} {l = l} {k = k} o) apart p =
    go (eqb x.processor p) refl (eqb y.processor p) refl (out_shows o apart.1 p) (out_has o)
  where
    go : (a : Bool) → eqb x.processor p ≡ a → (b : Bool) → eqb y.processor p ≡ b → rows_on p l ≡ cond b (y.row ∷ rows_on p k) (rows_on p k) → Has l y
        → cond a (x.row ∷ rows_on p l) (rows_on p l) ≡ cond b (y.row ∷ cond a (x.row ∷ rows_on p k) (rows_on p k)) (cond a (x.row ∷ rows_on p k) (rows_on p k))
    go true e true e' rest has =
        let same : y.processor ≡ x.processor = eqb-true y.processor p e' ∙ sym (eqb-true x.processor p e) in
        absurd (apart.0 (subst (Has (processors l)) same (has_map (λ z. z.processor) l y has)))
    go true e false e' rest has = ap (λ r. x.row ∷ r) rest
    go false e true e' rest has = rest
    go false e false e' rest has = rest

-- a part that is there
pub find_part : (j : ℕ) (l : List Placed) → 0 < times j (rows_of l) → (y : Placed) × (k : List Placed) × Out y l k × (part y.row.kind ≡ j)
find_part j [] some = absurd (omega arith)
find_part j (x ∷ l) some = go (eqb (part x.row.kind) j) refl some (find_part j l)
  where
    go : (b : Bool) → eqb (part x.row.kind) j ≡ b → 0 < cond b 1 0 + times j (rows_of l)
        → (0 < times j (rows_of l) → (y : Placed) × (k : List Placed) × Out y l k × (part y.row.kind ≡ j))
        → (y : Placed) × (k : List Placed) × Out y (x ∷ l) k × (part y.row.kind ≡ j)
    go true e some' rest = (x, l, here, eqb-true (part x.row.kind) j e)
    go false e some' rest = let r = rest (omega arith) in (r.0, x ∷ r.1, there r.2, r.3)

-- a tail's row of a key
abbrev pub TailOf : ℕ → Placed → Type 0
TailOf key y = (y.row.key ≡ key) × (y.row.kind ≡ Kind.Tail (part y.row.kind))

-- tails in serving order, as rows that are placed
pub record Sorted (key j : ℕ) (l : List Placed) : Type 0 where
  pub cuts : List Cut
  pub shows : (p : ℕ) → rows_on p l ≡ rows_on p (tails key j cuts)
  pub from : (y : Placed) → Has (tails key j cuts) y → Has l y
  pub apart : Distinct (processors (tails key j cuts))
  pub budgets : tail_budgets cuts ≡ stretch (rows_of l)
  pub count : length cuts ≡ length l

tail_stretch : (y : Placed) (j : ℕ) → y.row.kind ≡ Kind.Tail j → stretch_of y.row ≡ y.row.timing.budget
tail_stretch y j e = ap (λ kind. cond (eqb (kind_number kind) 2) y.row.timing.budget y.row.timing.deadline) e

pub sorted : (key j n : ℕ) (l : List Placed) → AllByRecursion (TailOf key) l → Distinct (processors l) → length l ≡ n
    → ((i : ℕ) → j ≤ i → i < j + n → times i (rows_of l) ≡ 1) → Sorted key j l
sorted key j zero [] all apart len once = record { cuts = []; shows = λ p. refl; from = λ y h. h; apart = tt; budgets = refl; count = refl }
sorted key j zero (x ∷ l) all apart len once = absurd (omega arith)
sorted key j (suc n) l all apart len once =
    let found = find_part j l (omega (arith, once j (omega arith) (omega arith))) in
    let y = found.0 in
    let k = found.1 in
    let out = found.2 in
    let others : AllByRecursion (TailOf key) k = all_from_has (TailOf key) k (λ z h. all_one (TailOf key) l z all (out_still out z h)) in
    let split = out_apart out apart in
    let rest = sorted key (j + 1) n k others split.1 (omega (arith, out_length out))
    (λ i le lt. omega (
      arith,
      once i (omega arith) (omega arith),
      out_times out i,
      ap {B = ℕ} (λ b. cond b 1 0) (ne_eqb (part y.row.kind) i (λ e. omega (arith, found.3, e))),
    )) in
    first y k out (all_one (TailOf key) l y all (out_has out)) found.3 split.0 rest
  where
    first : (y : Placed) (k : List Placed) → Out y l k → TailOf key y → part y.row.kind ≡ j → (Has (processors k) y.processor → ⊥) → Sorted key (j + 1) k → Sorted key j l
    first y k out is at fresh rest = record {
      cuts = cut ∷ rest.cuts;
      shows = λ p. out_shows out apart p ∙ ap (λ r. cond (eqb y.processor p) (y.row ∷ r) r) (rest.shows p) ∙ ap (λ z. rows_on p (z ∷ tails key (j + 1) rest.cuts)) (sym same);
      from = λ z h. ⊎_elim (λ e. subst (Has l) (sym same ∙ e) (out_has out)) (λ h'. out_still out z (rest.from z h')) (has_cases new (tails key (j + 1) rest.cuts) z h);
      apart = (
        λ h. let z = has_of_map (λ w. w.processor) (tails key (j + 1) rest.cuts) y.processor h in
            fresh (subst (Has (processors k)) z.2 (has_map (λ w. w.processor) k z.0 (rest.from z.0 z.1))),
        rest.apart,
      );
      budgets = omega (arith, rest.budgets, out_stretch out, tail_stretch y j kind);
      count = omega (arith, rest.count, out_length out);
    }
      where
        kind : y.row.kind ≡ Kind.Tail j
        kind = is.1 ∙ ap Kind.Tail at

        cut : Cut
        cut = record { processor = y.processor; timing = y.row.timing }

        new : Placed
        new = placed key y.processor (Kind.Tail j) y.row.timing

        same : new ≡ y
        same = λ i. record { processor = y.processor; row = record { key = sym is.0 i; kind = sym kind i; timing = y.row.timing } }
