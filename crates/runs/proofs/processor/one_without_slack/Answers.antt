use Rattle.std.proofs.Common.{◌<◌, ⊎_elim}
use Rattle.std.proofs.lemmas.Bool.{cases_order}
use Rattle.runs.proofs.Slack.{apart_fails}
use Rattle.runs.proofs.processor.one_without_slack.Goals as goal

pub returns : goal.returns
returns c l fits i j x y e e' tight tight' = ⊎_elim (λ same. same)
    (⊎_elim
    (λ (p : i < j). absurd (apart_fails l fits i j x y e e' tight tight' p))
    (λ (p : j < i). absurd (apart_fails l fits j i y x e' e tight' tight p)))
    (cases_order i j)
