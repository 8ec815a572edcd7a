-- The ways in which load ends. Assumes nothing.
use Rattle.std.proofs.Common.{◌≡◌, ℕ, Bool, List, map, length, Some, None, Ok, Err, Option, Result, sym, refl, ap, ◌∙◌, arith}
use Rattle.model.specs.declared.timing.Timing.{Timing}
use Rattle.model.specs.declared.row.Row.{Row}
use Rattle.store.specs.declared.fault.BufferFault.{BufferFault}
use Rattle.store.specs.Answers.{answered}
use Rattle.store.specs.Record.{entry}
use Rattle.store.specs.Entries.{entries}
use Rattle.store.specs.Keys.{key_fault}
use Rattle.store.specs.Judged.{judge_fault}
use Rattle.store.specs.Load.{plan_fault, first_of, replaced, Loaded}

pub answered_some : (o : Option BufferFault) (f : BufferFault) (r : Result (Unit {0}) BufferFault) → r ≡ answered o → r ≡ Err f → o ≡ Some f
answered_some None f r e was = let z : ◌≡◌ {A = ℕ} 0 1 = cc in absurd (omega arith)
answered_some (Some g) f r e was = cc

pub answered_none : (o : Option BufferFault) (x : Unit {0}) (r : Result (Unit {0}) BufferFault) → r ≡ answered o → r ≡ Ok x → o ≡ None
answered_none None x r e was = refl
answered_none (Some g) x r e was = let z : ◌≡◌ {A = ℕ} 0 1 = cc in absurd (omega arith)

module _ (accepts : List Timing → Bool) (bytes : List ℕ) (before : List (List Row)) (m : ℕ) (len : length before ≡ m) where
  pub loaded_refused : (f : BufferFault) → entries m bytes ≡ Err f → Loaded accepts bytes before (Err f) before
  loaded_refused f e = rw (len, e) (refl, refl)

  pub loaded_as :
      (rows : List (List Row)) (fault : Option BufferFault) → entries m bytes ≡ Ok (map (map entry) rows) → plan_fault accepts rows ≡ fault →
      Loaded accepts bytes before (answered fault) (replaced fault before rows)
  loaded_as rows fault e is = rw (len, e) (rows, refl, ap answered (sym is), ap (λ o. replaced o before rows) (sym is))

  module _ (rows : List (List Row)) (unpacked : entries m bytes ≡ Ok (map (map entry) rows)) where
    pub loaded_keys :
        (f : BufferFault) (r : Result (Unit {0}) BufferFault) → r ≡ answered (key_fault rows) → r ≡ Err f → Loaded accepts bytes before (Err f) before
    loaded_keys f r keys was =
        let k = answered_some (key_fault rows) f r keys was in
        loaded_as rows (Some f) unpacked (ap (λ o. first_of o (judge_fault accepts 1 rows)) k)

    module _ (x : Unit {0}) (r : Result (Unit {0}) BufferFault) (keys : r ≡ answered (key_fault rows)) (was : r ≡ Ok x) where
      keys_none : key_fault rows ≡ None
      keys_none = answered_none (key_fault rows) x r keys was

      pub loaded_judge :
          (f : BufferFault) (s : Result (Unit {0}) BufferFault) → s ≡ answered (judge_fault accepts 1 rows) → s ≡ Err f →
          Loaded accepts bytes before (Err f) before
      loaded_judge f s judged no_way =
          let j = answered_some (judge_fault accepts 1 rows) f s judged no_way in
          loaded_as rows (Some f) unpacked (ap (λ o. first_of o (judge_fault accepts 1 rows)) keys_none ∙ j)

      pub loaded_all :
          (y : Unit {0}) (s : Result (Unit {0}) BufferFault) (after : List (List Row)) →
          s ≡ answered (judge_fault accepts 1 rows) → s ≡ Ok y → after ≡ rows → Loaded accepts bytes before (Ok tt) after
      loaded_all y s after judged good is =
          let j = answered_none (judge_fault accepts 1 rows) y s judged good in
          rw is (loaded_as rows None unpacked (ap (λ o. first_of o (judge_fault accepts 1 rows)) keys_none ∙ j))
