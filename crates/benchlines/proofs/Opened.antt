-- What is answered to a first line, from what its settings were read as. Assumes nothing.
use Rattle.std.proofs.Common.{◌≡◌, ℕ, List, Ok, Err, Option, Result, subst}
use Rattle.model.specs.declared.fault.LineFault.{LineFault}
use Rattle.model.specs.declared.fault.SetupFault.{SetupFault}
use Rattle.lines.specs.declared.setup.JudgeWord.{JudgeWord}
use Rattle.lines.specs.declared.setup.RuleWord.{RuleWord}
use Rattle.lines.specs.Numbers.{then_do}
use Rattle.benchlines.specs.declared.opening.Opening.{Opening}
use Rattle.lines.specs.declared.setup.OpeningFault.{OpeningFault}
use Rattle.benchlines.specs.declared.settings.Settings.{Settings}
use Rattle.benchlines.specs.Openings.{settings_written, Settled, OpenedBy}

pub line_refused : (fs : List (List ℕ)) (words : Result (JudgeWord × Option RuleWord) LineFault) (fault : LineFault) →
    Err fault ≡ then_do words (λ w. Ok (settings_written fs w.0 w.1)) → OpenedBy fs words (Err (OpeningFault.Line fault))
line_refused fs (Ok w) fault is = absurd (cc)
line_refused fs (Err told) fault is = cc

pub setup_refused : (fs : List (List ℕ)) (words : Result (JudgeWord × Option RuleWord) LineFault) (settings : Settings) (fault : SetupFault) →
    Ok settings ≡ then_do words (λ w. Ok (settings_written fs w.0 w.1)) → Settled settings (Err fault)
    → OpenedBy fs words (Err (OpeningFault.Setup fault))
setup_refused fs (Ok w) settings fault is settled =
    let same : settings ≡ settings_written fs w.0 w.1 = cc in subst (λ s. Settled s (Err fault)) same settled
setup_refused fs (Err told) settings fault is settled = absurd (cc)

pub opened : (fs : List (List ℕ)) (words : Result (JudgeWord × Option RuleWord) LineFault) (settings : Settings) (opening : Opening) →
    Ok settings ≡ then_do words (λ w. Ok (settings_written fs w.0 w.1)) → Settled settings (Ok opening) → OpenedBy fs words (Ok opening)
opened fs (Ok w) settings opening is settled =
    let same : settings ≡ settings_written fs w.0 w.1 = cc in subst (λ s. Settled s (Ok opening)) same settled
opened fs (Err told) settings opening is settled = absurd (cc)
