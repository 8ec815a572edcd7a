-- The places that are told are the lowest. Assumes nothing.
use Rattle.std.proofs.Common.{◌≡◌, ℕ, zero, suc, ◌+◌, ◌-◌, ◌<◌, ◌≤◌, Bool, true, false, cond, ◌&&◌, ◌||◌, eqb, ltb, ◌⊎◌, List, [], ◌∷◌, ◌++◌, map, min, filter, length, get_or, Some, None, Option, sym, refl, ap, ◌∙◌, subst, inl, inr, ⊎_elim, arith}
use Rattle.std.specs.List.{AllByRecursion}
use Rattle.std.proofs.lemmas.Bool.{eq-eqb, ne_eqb, lt-ltb, le-ltb, eqb-true, eqb-false, ltb-true, ltb-false, and_parts, and_cases, or_cases, or_parts, cases_lt, cases_Bool, cases_eq, both_ways}
use Rattle.model.specs.declared.timing.Timing.{Timing}
use Rattle.model.specs.declared.row.Row.{Row}
use Rattle.model.specs.Row.{timings}
use Rattle.store.specs.declared.entry.Entry.{Entry}
use Rattle.store.specs.declared.fault.BufferFault.{BufferFault}
use Rattle.store.specs.declared.fault.BufferRule.{BufferRule}
use Rattle.store.specs.Fault.{fault}
use Rattle.store.specs.Record.{bad_entry}
use Rattle.store.specs.Records.{record_fault}
use Rattle.store.specs.Judged.{judge_fault}
use Rattle.store.specs.Keys.{bad_key, keys_fault, lower, lowest_in, lowest_of}
use Rattle.std.specs.List.{fold, reduce}
use Rattle.std.proofs.lemmas.Bool.Decides.{nat_tests}
use Rattle.store.specs.Gathered.{lower_key, lowest_key}
use Rattle.store.specs.Loading.{all_of, KeyOf, LowestKey, LowestRecord, LowestJudged}

-- a test that tells a refusal, or passes
told :
    (b : Bool) (f g : BufferFault) (o : Option BufferFault) → cond b (Some f) o ≡ Some g →
    ((b ≡ true) × (g ≡ f)) ⊎ ((b ≡ false) × (o ≡ Some g))
told true f g o e = let same : g ≡ f = cc in inl (refl, same)
told false f g o e = inr (refl, e)

record RecordTold (says : ℕ → Entry) (left number : ℕ) (f : BufferFault) : Type 0 where
  n : ℕ
  is : f ≡ fault BufferRule.Record n
  low : number ≤ n
  high : n < number + left
  bad : bad_entry (says n) ≡ true
  lowest : (k : ℕ) → number ≤ k → k < n → bad_entry (says k) ≡ false

record_told :
    (says : ℕ → Entry) (left number : ℕ) (f : BufferFault) → record_fault says left number ≡ Some f → RecordTold says left number f
unfolding record_fault
record_told says zero number f e = let z : ◌≡◌ {A = ℕ} 0 1 = cc in absurd (omega arith)
record_told says (suc left) number f e =
    ⊎_elim
    (λ (here : (bad_entry (says number) ≡ true) × (f ≡ fault BufferRule.Record number)). record {
      n = number;
      is = here.1;
      low = omega arith;
      high = omega arith;
      bad = here.0;
      lowest = λ k a b. absurd (omega arith);
    })
    (λ (on : (bad_entry (says number) ≡ false) × (record_fault says left (number + 1) ≡ Some f)).
    let t = record_told says left (number + 1) f on.1 in
    record {
      n = t.n;
      is = t.is;
      low = omega arith;
      high = omega arith;
      bad = t.bad;
      lowest = λ k a b.
          ⊎_elim (λ (more : number < k). t.lowest k (omega arith) b)
          (λ (least : k ≤ number). let same : k ≡ number = omega arith in ap (λ q. bad_entry (says q)) same ∙ on.0) (cases_lt number k);
    })
    (told (bad_entry (says number)) (fault BufferRule.Record number) f (record_fault says left (number + 1)) e)

pub record_lowest :
    (says : ℕ → Entry) (r : ℕ) (f : BufferFault) → record_fault says r 1 ≡ Some f →
    (n : ℕ) × (f ≡ fault BufferRule.Record n) × LowestRecord says r n
record_lowest says r f e =
    let t = record_told says r 1 f e in
    (t.n, t.is, record { some = t.low; within = omega arith; bad = t.bad; lowest = t.lowest })

-- the judge
refused_no : (b : Bool) (f g : BufferFault) (o : Option BufferFault) → cond b o (Some f) ≡ Some g →
    ((b ≡ false) × (g ≡ f)) ⊎ ((b ≡ true) × (o ≡ Some g))
refused_no true f g o e = inr (refl, e)
refused_no false f g o e = let same : g ≡ f = cc in inl (refl, same)

record JudgeTold (accepts : List Timing → Bool) (p : ℕ) (plan : List (List Row)) (f : BufferFault) : Type 0 where
  i : ℕ
  is : f ≡ fault BufferRule.Judge (p + i)
  within : i < length plan
  no_said : accepts (timings (get_or plan i [])) ≡ false
  lowest : (k : ℕ) → k < i → accepts (timings (get_or plan k [])) ≡ true

judge_told :
    (accepts : List Timing → Bool) (p : ℕ) (plan : List (List Row)) (f : BufferFault) → judge_fault accepts p plan ≡ Some f →
    JudgeTold accepts p plan f
judge_told accepts p [] f e = let z : ◌≡◌ {A = ℕ} 0 1 = cc in absurd (omega arith)
judge_told accepts p (rows ∷ plan) f e =
    ⊎_elim
    (λ (here : (accepts (timings rows) ≡ false) × (f ≡ fault BufferRule.Judge p)).
    let same : p ≡ p + 0 = omega arith in
    record { i = 0; is = here.1 ∙ ap (fault BufferRule.Judge) same; within = omega arith; no_said = here.0; lowest = λ k h. absurd (omega arith) })
    (λ (on : (accepts (timings rows) ≡ true) × (judge_fault accepts (p + 1) plan ≡ Some f)).
    let t = judge_told accepts (p + 1) plan f on.1 in
    let same : p + 1 + t.i ≡ p + suc t.i = omega arith in
    record {
      i = suc t.i;
      is = t.is ∙ ap (fault BufferRule.Judge) same;
      within = omega arith;
      no_said = t.no_said;
      lowest = λ k h. below k h on.0 t.lowest;
    })
    (refused_no (accepts (timings rows)) (fault BufferRule.Judge p) f (judge_fault accepts (p + 1) plan) e)
  where
    below :
        (k : ℕ) {i : ℕ} → k < suc i → accepts (timings rows) ≡ true → ((j : ℕ) → j < i → accepts (timings (get_or plan j [])) ≡ true) →
        accepts (timings (get_or (rows ∷ plan) k [])) ≡ true
    below zero h here rest = here
    below (suc k) h here rest = rest k (omega arith)

pub judge_lowest :
    (accepts : List Timing → Bool) (plan : List (List Row)) (f : BufferFault) → judge_fault accepts 1 plan ≡ Some f →
    (p : ℕ) × (f ≡ fault BufferRule.Judge p) × LowestJudged accepts plan p
judge_lowest accepts plan f e =
    let t = judge_told accepts 1 plan f e in
    let back : 1 + t.i - 1 ≡ t.i = omega arith in (
      1 + t.i,
      t.is,
      record {
        some = omega arith;
        within = omega arith;
        no_said = ap (λ q. accepts (timings (get_or plan q []))) back ∙ t.no_said;
        lowest = λ k a b. t.lowest (k - 1) (omega arith);
      },
    )

pub judge_all :
    (accepts : List Timing → Bool) (p : ℕ) (plan : List (List Row)) → judge_fault accepts p plan ≡ None → AllByRecursion (λ rows. accepts (timings rows) ≡ true) plan
judge_all accepts p [] e = tt
judge_all accepts p (rows ∷ plan) e =
    let parts = passed (accepts (timings rows)) (fault BufferRule.Judge p) (judge_fault accepts (p + 1) plan) e in
    (parts.0, judge_all accepts (p + 1) plan parts.1)
  where
    passed : (b : Bool) (f : BufferFault) (o : Option BufferFault) → cond b o (Some f) ≡ None → (b ≡ true) × (o ≡ None)
    passed true f o e = (refl, e)
    passed false f o e = let z : ◌≡◌ {A = ℕ} 0 1 = cc in absurd (omega arith)

-- the lowest bad key
module _ (bad : ℕ → Bool) where
  lowest_append : (w : ℕ) (a b : List Row) → lowest_in bad w (a ++ b) ≡ lowest_in bad (lowest_in bad w a) b
  lowest_append w [] b = refl
  lowest_append w (row ∷ a) b = lowest_append (lower bad w row.key) a b

  lowest_flat : (w : ℕ) (plan : List (List Row)) → lowest_of bad w plan ≡ lowest_in bad w (all_of plan)
  lowest_flat w [] = refl
  lowest_flat w (rows ∷ plan) = lowest_flat (lowest_in bad w rows) plan ∙ sym (lowest_append w rows (all_of plan))

  -- v is the lowest of w and the bad keys of the rows, where 0 stands for none
  record KeyLeast (w : ℕ) (rows : List Row) (v : ℕ) : Type 0 where
    none : v ≡ 0 → (w ≡ 0) × AllByRecursion (λ row. bad row.key ≡ false) rows
    under : 1 ≤ v → 1 ≤ w → v ≤ w
    attained : 1 ≤ v → (v ≡ w) ⊎ ((bad v ≡ true) × KeyOf v rows)
    floor : 1 ≤ v → AllByRecursion (λ row. bad row.key ≡ true → v ≤ row.key) rows

  Hit : ℕ → ℕ → Type 0
  Hit w k = (lower bad w k ≡ k) × (bad k ≡ true) × ((w ≡ 0) ⊎ (k < w))

  Miss : ℕ → ℕ → Type 0
  Miss w k = (lower bad w k ≡ w) × ((bad k ≡ false) ⊎ ((1 ≤ w) × (w ≤ k)))

  lower_cases : (w k : ℕ) → Hit w k ⊎ Miss w k
  unfolding Hit Miss
  lower_cases w k =
      ⊎_elim
      (λ (t : ((eqb w 0 || ltb k w) && bad k) ≡ true).
      let parts = and_parts (eqb w 0 || ltb k w) (bad k) t in
      inl (
        ap (λ b. cond b k w) t,
        parts.1,
        ⊎_elim (λ (z : eqb w 0 ≡ true). inl (eqb-true w 0 z)) (λ (l : ltb k w ≡ true). inr (ltb-true k w l)) (or_cases (eqb w 0) (ltb k w) parts.0),
      ))
      (λ (t : ((eqb w 0 || ltb k w) && bad k) ≡ false).
      inr (
        ap (λ b. cond b k w) t,
        ⊎_elim
            (λ (o : (eqb w 0 || ltb k w) ≡ false).
            let parts = or_parts (eqb w 0) (ltb k w) o in
            inr (omega (arith, eqb-false w 0 parts.0), ltb-false k w parts.1))
            (λ (g : bad k ≡ false). inl g)
            (and_cases (eqb w 0 || ltb k w) (bad k) t),
      ))
      (cases_Bool ((eqb w 0 || ltb k w) && bad k))

  hit_least :
      (w : ℕ) (row : Row) (rows : List Row) (v : ℕ) → 1 ≤ row.key → Hit w row.key → KeyLeast (lower bad w row.key) rows v → KeyLeast w (row ∷ rows) v
  unfolding Hit
  hit_least w row rows v low hit t =
      let to = hit.0 in
      let below : 1 ≤ v → v ≤ row.key = λ h. omega (arith, t.under h (omega arith)) in
      record {
        none = λ z. absurd (omega (arith, (t.none z).0));
        under = λ h k. ⊎_elim (λ (z : w ≡ 0). absurd (omega arith)) (λ (l : row.key < w). omega (arith, below h)) hit.2;
        attained = λ h.
            ⊎_elim
            (λ (same : v ≡ lower bad w row.key). let is : v ≡ row.key = same ∙ to in inr (ap bad is ∙ hit.1, inl (sym is)))
            (λ (q : (bad v ≡ true) × KeyOf v rows). inr (q.0, inr q.1)) (t.attained h);
        floor = λ h. ((λ _. below h), t.floor h);
      }

  miss_least :
      (w : ℕ) (row : Row) (rows : List Row) (v : ℕ) → 1 ≤ row.key → Miss w row.key → KeyLeast (lower bad w row.key) rows v → KeyLeast w (row ∷ rows) v
  unfolding Miss
  miss_least w row rows v low miss t =
      let to = miss.0 in
      record {
        none = λ z.
            let zero' : w ≡ 0 = sym to ∙ (t.none z).0 in (
              zero',
              (⊎_elim (λ (g : bad row.key ≡ false). g) (λ (k : (1 ≤ w) × (w ≤ row.key)). absurd (omega (arith, k.0))) miss.1, (t.none z).1),
            );
        under = λ h k. omega (arith, t.under h (omega arith));
        attained = λ h.
            ⊎_elim (λ (same : v ≡ lower bad w row.key). inl (same ∙ to))
            (λ (q : (bad v ≡ true) × KeyOf v rows). inr (q.0, inr q.1)) (t.attained h);
        floor = λ h. (
          (λ b.
              ⊎_elim (λ (g : bad row.key ≡ false). absurd (both_ways (bad row.key) g b))
              (λ (k : (1 ≤ w) × (w ≤ row.key)). let one = k.0 in omega (arith, k.1, t.under h (omega arith))) miss.1),
          t.floor h,
        );
      }

  lowest_least : (rows : List Row) (w : ℕ) → AllByRecursion (λ row. 1 ≤ row.key) rows → KeyLeast w rows (lowest_in bad w rows)
  lowest_least [] w keyed = record { none = λ z. (z, tt); under = λ h k. omega arith; attained = λ h. inl refl; floor = λ h. tt }
  lowest_least (row ∷ rows) w keyed =
      ⊎_elim
      (λ (hit : Hit w row.key). hit_least w row rows _ keyed.0 hit (lowest_least rows (lower bad w row.key) keyed.1))
      (λ (miss : Miss w row.key). miss_least w row rows _ keyed.0 miss (lowest_least rows (lower bad w row.key) keyed.1))
      (lower_cases w row.key)

pub key_none :
    (plan : List (List Row)) → AllByRecursion (λ row. 1 ≤ row.key) (all_of plan) → lowest_of (bad_key plan) 0 plan ≡ 0 →
    AllByRecursion (λ row. bad_key plan row.key ≡ false) (all_of plan)
key_none plan keyed z =
    ((lowest_least (bad_key plan) (all_of plan) 0 keyed).none (sym (lowest_flat (bad_key plan) 0 plan) ∙ z)).1

pub key_lowest :
    (plan : List (List Row)) (key : ℕ) → AllByRecursion (λ row. 1 ≤ row.key) (all_of plan) → lowest_of (bad_key plan) 0 plan ≡ key → 1 ≤ key → LowestKey plan key
key_lowest plan key keyed is some =
    let flat = lowest_flat (bad_key plan) 0 plan in
    let least = subst (KeyLeast (bad_key plan) 0 (all_of plan)) (sym flat ∙ is) (lowest_least (bad_key plan) (all_of plan) 0 keyed) in
    let found : (bad_key plan key ≡ true) × KeyOf key (all_of plan) =
    ⊎_elim (λ (z : key ≡ 0). absurd (omega arith)) (λ (q : (bad_key plan key ≡ true) × KeyOf key (all_of plan)). q) (least.attained some) in
    record { there = found.1; bad = found.0; lowest = least.floor some }

-- what holds of the key of every row holds of a key that some row has
pub at_key : (P : ℕ → Type 0) (key : ℕ) (rows : List Row) → KeyOf key rows → AllByRecursion (λ row. P row.key) rows → P key
at_key P key [] there all = absurd there
at_key P key (row ∷ rows) (inl e) all = subst P e all.0
at_key P key (row ∷ rows) (inr there) all = at_key P key rows there all.1

pub key_zero :
    (plan : List (List Row)) → AllByRecursion (λ row. 1 ≤ row.key) (all_of plan) → AllByRecursion (λ row. bad_key plan row.key ≡ false) (all_of plan) →
    lowest_of (bad_key plan) 0 plan ≡ 0
key_zero plan keyed good =
    let v = lowest_in (bad_key plan) 0 (all_of plan) in
    let least = lowest_least (bad_key plan) (all_of plan) 0 keyed in
    lowest_flat (bad_key plan) 0 plan
    ∙ ⊎_elim (λ (z : v ≡ 0). z)
    (λ (some : v ≡ 0 → ⊥).
    ⊎_elim (λ (z : v ≡ 0). z)
    (λ (q : (bad_key plan v ≡ true) × KeyOf v (all_of plan)).
    absurd (both_ways (bad_key plan v) (at_key (λ k. bad_key plan k ≡ false) v (all_of plan) q.1 good) q.0))
    (least.attained (omega arith)))
    (cases_eq v 0)

pub key_is :
    (plan : List (List Row)) (key : ℕ) → AllByRecursion (λ row. 1 ≤ row.key) (all_of plan) → LowestKey plan key → lowest_of (bad_key plan) 0 plan ≡ key
key_is plan key keyed lowest =
    let v = lowest_in (bad_key plan) 0 (all_of plan) in
    let least = lowest_least (bad_key plan) (all_of plan) 0 keyed in
    lowest_flat (bad_key plan) 0 plan
    ∙ ⊎_elim
    (λ (z : v ≡ 0).
    absurd (both_ways (bad_key plan key) (at_key (λ k. bad_key plan k ≡ false) key (all_of plan) lowest.there (least.none z).1) lowest.bad))
    (λ (some : v ≡ 0 → ⊥).
    let one : 1 ≤ v = omega arith in
    let found : (bad_key plan v ≡ true) × KeyOf v (all_of plan) =
    ⊎_elim (λ (z : v ≡ 0). absurd (some z)) (λ (q : (bad_key plan v ≡ true) × KeyOf v (all_of plan)). q) (least.attained one) in
    let up : v ≤ key = at_key (λ k. bad_key plan k ≡ true → v ≤ k) key (all_of plan) lowest.there (least.floor one) lowest.bad in
    let down : key ≤ v = at_key (λ k. bad_key plan k ≡ true → key ≤ k) v (all_of plan) found.1 lowest.lowest found.0 in
    omega arith)
    (cases_eq v 0)

-- the lowest so far, as the least of the bad keys
fold_low :
    (bad : ℕ → Bool) (rows : List Row) (lowest : ℕ) → 1 ≤ lowest → AllByRecursion (λ row. 1 ≤ row.key) rows →
    (lowest_in bad lowest rows ≡ fold min lowest (filter bad (map (λ row. row.key) rows))) × (1 ≤ lowest_in bad lowest rows)
fold_low bad [] lowest some all = (refl, some)
fold_low bad (row ∷ rows) lowest some all =
    let rest = filter bad (map (λ row. row.key) rows) in
    elim (bad row.key) as (λ b. (lowest_in bad (cond ((eqb lowest 0 || ltb row.key lowest) && b) row.key lowest) rows ≡ fold min lowest (cond b (row.key ∷ rest) rest))
    × (1 ≤ lowest_in bad (cond ((eqb lowest 0 || ltb row.key lowest) && b) row.key lowest) rows)) [
      | true ↦ rw (lower_min lowest row.key some) (fold_low bad rows (min lowest row.key) (omega arith) all.1)
      | false ↦ rw (and_no (eqb lowest 0 || ltb row.key lowest)) (fold_low bad rows lowest some all.1)
    ]
  where
    and_no : (b : Bool) → (b && false) ≡ false
    and_no true = refl
    and_no false = refl

    lower_min : (lowest key : ℕ) → 1 ≤ lowest → cond ((eqb lowest 0 || ltb key lowest) && true) key lowest ≡ min lowest key
    lower_min lowest key some = grind (arith, nat_tests)

-- none, or the lowest
abbrev pub IsLowest : ℕ → Option ℕ → Type 0
IsLowest lowest None = lowest ≡ 0
IsLowest lowest (Some key) = (lowest ≡ key) × (1 ≤ key)

first_low :
    (bad : ℕ → Bool) (rows : List Row) → AllByRecursion (λ row. 1 ≤ row.key) rows →
    IsLowest (lowest_in bad 0 rows) (reduce min (filter bad (map (λ row. row.key) rows)))
first_low bad [] all = refl
first_low bad (row ∷ rows) all =
    let rest = filter bad (map (λ row. row.key) rows) in
    elim (bad row.key) as (λ b. IsLowest (lowest_in bad (cond ((eqb 0 0 || ltb row.key 0) && b) row.key 0) rows) (reduce min (cond b (row.key ∷ rest) rest))) [
      | true ↦ let f = fold_low bad rows row.key all.0 all.1 in (f.0, rw (← f.0) f.1)
      | false ↦ first_low bad rows all.1
    ]

pub key_is_lowest :
    (plan : List (List Row)) (key : Option ℕ) → AllByRecursion (λ row. 1 ≤ row.key) (all_of plan) → key ≡ lowest_key plan →
    IsLowest (lowest_of (bad_key plan) 0 plan) key
key_is_lowest plan key keyed is = rw (is, lowest_flat (bad_key plan) 0 plan) (first_low (bad_key plan) (all_of plan) keyed)

-- the lower of the lowest so far and each key, as the least of the bad keys
fold_lower :
    (bad : ℕ → Bool) (low : ℕ) (keys : List ℕ) → fold (lower_key bad) (Some low) keys ≡ Some (fold min low (filter bad keys))
fold_lower bad low [] = refl
fold_lower bad low (key ∷ keys) =
    let rest = filter bad keys in
    elim (bad key) as (λ b. fold (lower_key bad) (cond (ltb key low && b) (Some key) (Some low)) keys ≡ Some (fold min low (cond b (key ∷ rest) rest))) [
      | true ↦ rw (lower_min low key) (fold_lower bad (min low key) keys)
      | false ↦ rw (and_no (ltb key low)) (fold_lower bad low keys)
    ]
  where
    and_no : (b : Bool) → (b && false) ≡ false
    and_no true = refl
    and_no false = refl

    lower_min : (low key : ℕ) → cond (ltb key low && true) (Some key) (Some low) ≡ Some (min low key)
    lower_min low key = grind (arith, nat_tests)

pub lower_least : (bad : ℕ → Bool) (keys : List ℕ) → fold (lower_key bad) None keys ≡ reduce min (filter bad keys)
lower_least bad [] = refl
lower_least bad (key ∷ keys) =
    let rest = filter bad keys in
    elim (bad key) as (λ b. fold (lower_key bad) (cond b (Some key) None) keys ≡ reduce min (cond b (key ∷ rest) rest)) [
      | true ↦ fold_lower bad key keys
      | false ↦ lower_least bad keys
    ]

-- what the lowest key and the number of keys refuse
pub key_told : (v c key : ℕ) → v ≡ key → 1 ≤ key → keys_fault v c ≡ Some (fault BufferRule.Key key)
key_told v c key is some = rw (is, ne_eqb key 0 (λ e. omega arith)) refl

pub keys_told : (v c : ℕ) → v ≡ 0 → 64 < c → keys_fault v c ≡ Some (fault BufferRule.Keys 0)
keys_told v c z many = rw (eq-eqb v 0 z, lt-ltb 64 c many) refl

pub none_told : (v c : ℕ) → v ≡ 0 → c ≤ 64 → keys_fault v c ≡ None
none_told v c z few = rw (eq-eqb v 0 z, le-ltb 64 c few) refl
