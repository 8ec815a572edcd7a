-- What a plan has that breaks no rule of plans, and what a load that is not refused leaves. Assumes nothing.
use Rattle.std.proofs.Common.{◌≡◌, ℕ, ◌+◌, ◌≤◌, Bool, true, false, cond, not, ◌&&◌, ◌||◌, eqb, ltb, List, [], ◌∷◌, map, Some, None, Ok, Err, Option, Result, sym, refl, ap, ◌∙◌, ⊎_elim, arith}
use Rattle.std.proofs.lemmas.Bool.{eq-eqb, eqb-true, ltb-false, and_cases, or_parts, not-false, true≢false}
use Rattle.std.specs.List.{AllByRecursion}
use Rattle.model.specs.declared.timing.Timing.{Timing}
use Rattle.model.specs.declared.row.Kind.{Kind}
use Rattle.model.specs.declared.row.Row.{Row}
use Rattle.model.specs.Row.{kind_number, timings, is_tail}
use Rattle.processor.specs.Keys.{owners}
use Rattle.board.specs.Keys.{reservations}
use Rattle.store.specs.declared.entry.Entry.{Entry}
use Rattle.store.specs.declared.fault.BufferFault.{BufferFault}
use Rattle.store.specs.declared.fault.BufferRule.{BufferRule}
use Rattle.store.specs.Fault.{fault}
use Rattle.store.specs.Answers.{answered}
use Rattle.store.specs.Record.{entry}
use Rattle.store.specs.Keys.{bad_key, lower, lowest_in, lowest_of, firsts, keys, key_fault}
use Rattle.store.specs.Judged.{judge_fault}
use Rattle.store.specs.Load.{first_of, plan_fault, replaced, Taken}
use Rattle.promise.specs.Plan.{Plan}
use Rattle.promise.proofs.Recorded.{cond_none}

-- keys that are not 0, with no lowest bad one
module _ (bad : ℕ → Bool) where
  lower_none : (lowest key : ℕ) → (key ≡ 0 → ⊥) → lower bad lowest key ≡ 0 → (lowest ≡ 0) × (bad key ≡ false)
  lower_none lowest key some e = go ((eqb lowest 0 || ltb key lowest) && bad key) refl e
    where
      go : (b : Bool) → ((eqb lowest 0 || ltb key lowest) && bad key) ≡ b → cond b key lowest ≡ 0 → (lowest ≡ 0) × (bad key ≡ false)
      go true is e' = absurd (some e')
      go false is e' = (
        e',
        ⊎_elim (λ h. absurd (true≢false (sym (eq-eqb lowest 0 e') ∙ (or_parts (eqb lowest 0) (ltb key lowest) h).0))) (λ h. h)
            (and_cases (eqb lowest 0 || ltb key lowest) (bad key) is),
      )

  lowest_in_none : (lowest : ℕ) (rows : List Row) → AllByRecursion (λ row. row.key ≡ 0 → ⊥) rows → lowest_in bad lowest rows ≡ 0 → (lowest ≡ 0) × AllByRecursion (λ row. bad row.key ≡ false) rows
  lowest_in_none lowest [] some e = (e, tt)
  lowest_in_none lowest (row ∷ rows) some e =
      let rest = lowest_in_none (lower bad lowest row.key) rows some.1 e in
      let here = lower_none lowest row.key some.0 rest.0 in
      (here.0, (here.1, rest.1))

  lowest_of_none : (lowest : ℕ) (plan : Plan) → AllByRecursion (AllByRecursion (λ row. row.key ≡ 0 → ⊥)) plan → lowest_of bad lowest plan ≡ 0 → (lowest ≡ 0) × AllByRecursion (AllByRecursion (λ row. bad row.key ≡ false)) plan
  lowest_of_none lowest [] some e = (e, tt)
  lowest_of_none lowest (rows ∷ plan) some e =
      let rest = lowest_of_none (lowest_in bad lowest rows) plan some.1 e in
      let here = lowest_in_none lowest rows some.0 rest.0 in
      (here.0, (here.1, rest.1))

-- no key is bad, and they are at most 64
pub keys_sound : (plan : Plan) → AllByRecursion (AllByRecursion (λ row. row.key ≡ 0 → ⊥)) plan → key_fault plan ≡ None → AllByRecursion (AllByRecursion (λ row. bad_key plan row.key ≡ false)) plan × (keys plan ≤ 64)
keys_sound plan some e =
    let lowest = lowest_of (bad_key plan) 0 plan in
    let a = cond_none (not (eqb lowest 0)) (fault BufferRule.Key lowest) (cond (ltb 64 (keys plan)) (Some (fault BufferRule.Keys 0)) None) e in
    let b = cond_none (ltb 64 (keys plan)) (fault BufferRule.Keys 0) None a.1 in
    ((lowest_of_none (bad_key plan) 0 plan some (eqb-true lowest 0 (not-false (eqb lowest 0) a.0))).1, ltb-false 64 (keys plan) b.0)

-- keys are counted by their wholes and heads
owners_firsts : (rows : List Row) → owners rows ≡ firsts rows
owners_firsts [] = refl
owners_firsts (row ∷ rows) = omega (arith, one row.kind, owners_firsts rows)
  where
    one : (kind : Kind) → ◌≡◌ {A = ℕ} (cond (is_tail kind) 0 1) (cond (eqb (kind_number kind) 2) 0 1)
    one Kind.Whole = refl
    one Kind.Head = refl
    one (Kind.Tail j) = refl

pub reservations_keys : (plan : Plan) → reservations plan ≡ keys plan
reservations_keys [] = refl
reservations_keys (rows ∷ plan) = omega (arith, owners_firsts rows, reservations_keys plan)

-- the judge accepts every processor's rows
pub judge_sound : (accepts : List Timing → Bool) (p : ℕ) (plan : Plan) → judge_fault accepts p plan ≡ None → AllByRecursion (λ rows. accepts (timings rows) ≡ true) plan
judge_sound accepts p [] e = tt
judge_sound accepts p (rows ∷ plan) e = go (accepts (timings rows)) refl e (judge_sound accepts (p + 1) plan)
  where
    go : (b : Bool) → accepts (timings rows) ≡ b → cond b (judge_fault accepts (p + 1) plan) (Some (fault BufferRule.Judge p)) ≡ None
        → (judge_fault accepts (p + 1) plan ≡ None → AllByRecursion (λ r. accepts (timings r) ≡ true) plan) → AllByRecursion (λ r. accepts (timings r) ≡ true) (rows ∷ plan)
    go true is e' rest = (is, rest e')
    go false is e' rest = let z : ◌≡◌ {A = ℕ} 0 1 = cc in absurd (omega arith)

-- no rule fails
pub plan_sound : (accepts : List Timing → Bool) (plan : Plan) → plan_fault accepts plan ≡ None → (key_fault plan ≡ None) × (judge_fault accepts 1 plan ≡ None)
plan_sound accepts plan e = go (key_fault plan) refl e
  where
    go : (o : Option BufferFault) → key_fault plan ≡ o → first_of o (judge_fault accepts 1 plan) ≡ None → (key_fault plan ≡ None) × (judge_fault accepts 1 plan ≡ None)
    go None is e' = (is, e')
    go (Some g) is e' = let z : ◌≡◌ {A = ℕ} 0 1 = cc in absurd (omega arith)

-- what a load leaves that is not refused: rows that the image says and that break no rule
pub taken_sound : (accepts : List Timing → Bool) (stored : Result (List (List Entry)) BufferFault) (before after : Plan) → Taken accepts stored before (Ok tt) after
    → (stored ≡ Ok (map (map entry) after)) × (plan_fault accepts after ≡ None)
taken_sound accepts (Err g) before after h = let e = h.0 in let z : ◌≡◌ {A = ℕ} 0 1 = cc in absurd (omega arith)
taken_sound accepts (Ok stored) before after h = go (plan_fault accepts rows) refl h.2 h.3
  where
    rows : Plan
    rows = h.0

    go : (o : Option BufferFault) → plan_fault accepts rows ≡ o → ◌≡◌ {A = Result (Unit {0}) BufferFault} (Ok tt) (answered o) → after ≡ replaced o before rows
        → (◌≡◌ {A = Result (List (List Entry)) BufferFault} (Ok stored) (Ok (map (map entry) after))) × (plan_fault accepts after ≡ None)
    go None is e same = (ap Ok (sym h.1 ∙ ap (map (map entry)) (sym same)), ap (plan_fault accepts) same ∙ is)
    go (Some g) is e same = let z : ◌≡◌ {A = ℕ} 0 1 = cc in absurd (omega arith)
