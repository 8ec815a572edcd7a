-- A run that starts idle at a tick keeps the rule before that tick. Assumes nothing.
use Rattle.std.proofs.Common.{◌≡◌, ℕ, ◌<◌, ◌≤◌, List, sym, ◌∙◌, ⊎_elim, arith}
use Rattle.std.proofs.lemmas.Bool.{cases_lt}
use Rattle.runs.specs.Pieces.{Stream, row}
use Rattle.runs.specs.Run.{Slot, idle, serves, EarliestDeadline}
use Rattle.runs.specs.Processor.{StartsIdle}

pub idle_serves : (i k : ℕ) → idle ≡ serves i k → ⊥
idle_serves i k e = let z : ◌≡◌ {A = ℕ} 0 1 = cc in omega arith

pub rule_before : (work : List Stream) (run : ℕ → Slot) (s d : ℕ) → StartsIdle work run s →
    ((t : ℕ) → s ≤ t → t < d → EarliestDeadline work run t) → (t : ℕ) → t < d → EarliestDeadline work run t
rule_before work run s d start rule t l = ⊎_elim
    (λ (p : t < s). record {
      waiting = λ i k e. absurd (idle_serves i k (sym (start.before t p) ∙ e));
      earliest = λ i k j m e w. absurd (idle_serves i k (sym (start.before t p) ∙ e));
      busy = λ e i k w. early i k p w.started (start.starts i k w.real);
    })
    (λ (p : s ≤ t). rule t p l)
    (cases_lt t s)
  where
    early : (i k : ℕ) → t < s → (row work i).start k ≤ t → s ≤ (row work i).start k → ⊥
    early i k p q r = omega arith
