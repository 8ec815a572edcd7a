-- A plan that an image can say is loaded as it was saved, and a plan that was loaded is one. Assumes nothing.
use Rattle.std.proofs.Common.{◌≡◌, ℕ, ◌+◌, ◌≤◌, Bool, false, cond, not, ◌||◌, eqb, ltb, List, [], ◌∷◌, ◌++◌, map, length, is_some, None, Ok, Result, sym, refl, ap, ◌∙◌, subst, arith}
use Rattle.std.specs.List.{AllByRecursion}
use Rattle.std.proofs.lemmas.List.{length-map}
use Rattle.std.proofs.ByRecursion.{All-weaker}
use Rattle.std.proofs.lemmas.Bool.{ne_eqb, eq-eqb, le-ltb, eqb-true, eqb-false, ltb-false, or_from, or_parts, not-false}
use Rattle.model.specs.declared.timing.Timing.{Timing}
use Rattle.model.specs.declared.row.Kind.{Kind}
use Rattle.model.specs.declared.row.Row.{Row}
use Rattle.model.specs.Row.{kind_number, part}
use Rattle.model.specs.Limits.{timing_fault}
use Rattle.store.specs.declared.fault.BufferFault.{BufferFault}
use Rattle.store.specs.Image.{image}
use Rattle.store.specs.Record.{entry, entry_at, bad_part, bad_entry}
use Rattle.store.specs.Keys.{bad_key, lowest_of, keys}
use Rattle.store.specs.Judged.{judge_fault}
use Rattle.store.specs.Load.{plan_fault, Loaded}
use Rattle.store.specs.Loading.{Sounds, PlanOf, Lawful, Loads}
use Rattle.store.specs.Theorems.{TailFits, Sayable, SayablePlan, SayableLoads, SayableAgain, SayableReloads}
use Rattle.store.proofs.Loads.{loaded_as}
use Rattle.store.proofs.LoadedPlans.{short_of, plan_short}
use Rattle.store.proofs.Lowest.{key_zero}
use Rattle.store.proofs.Meaning.{all_keyed, means}
use Rattle.store.proofs.Only.{keys_fine, judge_none, rows_good, loads_only}
use Rattle.store.proofs.RoundTrips.{saved_entries}

-- a record can say a row just where it is no bad one
timing_none : (x : Timing) → timing_fault x.budget x.deadline x.period ≡ None
timing_none x =
    rw (
      ne_eqb x.budget 0 (λ (z : x.budget ≡ 0). omega arith),
      le-ltb x.deadline x.budget x.fits,
      le-ltb x.period x.deadline x.constrained,
      le-ltb 100000 x.period x.short,
    )

part_fine : (kind : Kind) (x : Timing) → TailFits kind x →
    cond (eqb (kind_number kind) 2) (ltb (part kind) 1 || (ltb 7 (part kind) || not (eqb x.budget x.deadline))) (not (eqb (part kind) 0)) ≡ false
part_fine Kind.Whole x fits = refl
part_fine Kind.Head x fits = refl
part_fine (Kind.Tail p) x fits =
    or_from (ltb p 1) _ (le-ltb p 1 fits.0)
    (or_from (ltb 7 p) _ (le-ltb 7 p fits.1) (ap not (eq-eqb x.budget x.deadline fits.2)))

kind_fine : (kind : Kind) → ltb 2 (kind_number kind) ≡ false
kind_fine Kind.Whole = refl
kind_fine Kind.Head = refl
kind_fine (Kind.Tail p) = refl

pub sayable_good : (row : Row) → Sayable row → bad_entry (entry row) ≡ false
sayable_good row say =
    or_from (ltb 2 (kind_number row.kind)) _ (kind_fine row.kind)
    (or_from (eqb row.key 0) _ (ne_eqb row.key 0 (λ (z : row.key ≡ 0). omega (arith, say.0)))
    (or_from (bad_part (entry row)) _ (part_fine row.kind row.timing say.1) (ap is_some (timing_none row.timing))))

tail_fits : (kind : Kind) (x : Timing) →
    cond (eqb (kind_number kind) 2) (ltb (part kind) 1 || (ltb 7 (part kind) || not (eqb x.budget x.deadline))) (not (eqb (part kind) 0)) ≡ false →
    TailFits kind x
tail_fits Kind.Whole x fine = tt
tail_fits Kind.Head x fine = tt
tail_fits (Kind.Tail p) x fine =
    let a = or_parts (ltb p 1) (ltb 7 p || not (eqb x.budget x.deadline)) fine in
    let b = or_parts (ltb 7 p) (not (eqb x.budget x.deadline)) a.1 in
    (ltb-false p 1 a.0, ltb-false 7 p b.0, eqb-true x.budget x.deadline (not-false (eqb x.budget x.deadline) b.1))

good_sayable : (row : Row) → bad_entry (entry row) ≡ false → Sayable row
good_sayable row good =
    let x = row.timing in
    let late = bad_part (entry row) || is_some (timing_fault x.budget x.deadline x.period) in
    let a = or_parts (ltb 2 (kind_number row.kind)) (eqb row.key 0 || late) good in
    let b = or_parts (eqb row.key 0) late a.1 in
    let c = or_parts (bad_part (entry row)) (is_some (timing_fault x.budget x.deadline x.period)) b.1 in
    (omega (arith, eqb-false row.key 0 b.0), tail_fits row.kind x c.0)

GoodRows : List (List Row) → Type 0
GoodRows = AllByRecursion (AllByRecursion (λ row. bad_entry (entry row) ≡ false))

sounds_short : (head next : ℕ → ℕ) (r p : ℕ) (before : List ℕ) (ls : List (List ℕ)) → Sounds head next r p before ls → AllByRecursion (λ c. length c ≤ 32) ls
sounds_short head next r p before [] s = tt
sounds_short head next r p before (l ∷ ls) s = (s.0.short, sounds_short head next r (p + 1) (before ++ l) ls s.1)

module _ (accepts : List Timing → Bool) where
  -- no rule of plans fails
  lawful_fault : (plan : List (List Row)) → GoodRows plan → Lawful accepts plan → plan_fault accepts plan ≡ None
  unfolding GoodRows
  lawful_fault plan good law =
      keys_fine (lowest_of (bad_key plan) 0 plan) (keys plan) (judge_fault accepts 1 plan) (key_zero plan (all_keyed plan good) law.reservations) law.few
      ∙ judge_none accepts 1 plan law.judged

  sayable_loaded : (plan before : List (List Row)) → SayablePlan accepts plan → length before ≡ length plan → Loaded accepts (image plan) before (Ok tt) plan
  unfolding GoodRows
  sayable_loaded plan before ok len =
      let good : AllByRecursion (AllByRecursion (λ row. bad_entry (entry row) ≡ false)) plan =
      All-weaker (AllByRecursion Sayable) (AllByRecursion (λ row. bad_entry (entry row) ≡ false))
      (λ rows. All-weaker Sayable (λ row. bad_entry (entry row) ≡ false) sayable_good rows) plan ok.rows in
      loaded_as accepts (image plan) before (length plan) len plan None (saved_entries plan ok.eight ok.short good) (lawful_fault plan good ok.lawful)

  pub sayable_loads : SayableLoads accepts
  sayable_loads plan before ok len = means accepts (image plan) before (Ok tt) plan (sayable_loaded plan before ok len)

  pub sayable_only :
      (plan before : List (List Row)) → SayablePlan accepts plan → length before ≡ length plan →
      (answer : Result (Unit {0}) BufferFault) (after : List (List Row)) → Loads accepts (image plan) before answer after → (answer ≡ Ok tt) × (after ≡ plan)
  sayable_only plan before ok len = loads_only accepts (image plan) before (Ok tt) plan (sayable_loaded plan before ok len)

  pub sayable_again : SayableAgain accepts
  sayable_again plan before after answer ok len loads = ap image (sayable_only plan before ok len answer after loads).1

  -- what a load that is not refused says
  loads_plan :
      (bytes : List ℕ) (before : List (List Row)) (answer : Result (Unit {0}) BufferFault) (after : List (List Row)) → Loads accepts bytes before answer after →
      answer ≡ Ok tt → PlanOf bytes (length before) after × Lawful accepts after
  loads_plan bytes before answer after (Loads.loaded plan of law) e = (of, law)
  loads_plan bytes before answer after (Loads.bad_header f header) e = let z : ◌≡◌ {A = ℕ} 0 1 = cc in absurd (omega arith)
  loads_plan bytes before answer after (Loads.bad_chain p header stuck) e = let z : ◌≡◌ {A = ℕ} 0 1 = cc in absurd (omega arith)
  loads_plan bytes before answer after (Loads.left_over header over) e = let z : ◌≡◌ {A = ℕ} 0 1 = cc in absurd (omega arith)
  loads_plan bytes before answer after (Loads.bad_record ls n header lies lowest) e = let z : ◌≡◌ {A = ℕ} 0 1 = cc in absurd (omega arith)
  loads_plan bytes before answer after (Loads.no_reservation plan key of lowest) e = let z : ◌≡◌ {A = ℕ} 0 1 = cc in absurd (omega arith)
  loads_plan bytes before answer after (Loads.many_keys plan of good many) e = let z : ◌≡◌ {A = ℕ} 0 1 = cc in absurd (omega arith)
  loads_plan bytes before answer after (Loads.not_judged plan p of good few lowest) e = let z : ◌≡◌ {A = ℕ} 0 1 = cc in absurd (omega arith)

  loads_storable :
      (bytes : List ℕ) (before after : List (List Row)) → length before ≤ 8 → Loads accepts bytes before (Ok tt) after →
      SayablePlan accepts after × (length after ≡ length before)
  loads_storable bytes before after eight loads =
      let said = loads_plan bytes before (Ok tt) after loads refl in
      let m = length before in
      let says = entry_at m bytes in
      let of = said.0 in
      let long : length after ≡ m = sym (length-map after (map entry)) ∙ ap length of.2 ∙ length-map of.0 (map says) ∙ of.1.lies.count in (
        record {
          eight = omega arith;
          short = plan_short after (subst (AllByRecursion (λ es. length es ≤ 32)) (sym of.2) (short_of says of.0 (sounds_short _ _ _ 0 [] of.0 of.1.lies.sound)));
          rows = All-weaker (AllByRecursion (λ row. bad_entry (entry row) ≡ false)) (AllByRecursion Sayable)
              (λ rows. All-weaker (λ row. bad_entry (entry row) ≡ false) Sayable good_sayable rows) after (rows_good accepts bytes before after of);
          lawful = said.1;
        },
        long,
      )

  pub sayable_reloads : SayableReloads accepts
  sayable_reloads bytes before after before' eight len loads =
      let kept = loads_storable bytes before after eight loads in
      sayable_loads after before' kept.0 (len ∙ sym kept.1)
