use Rattle.runs.proofs.Building.{built, built_first, built_rule}
use Rattle.runs.proofs.processor.some_run.Goals as goal

pub returns : goal.returns
returns c work first s = (built work first s, built_first work first s, built_rule work first s)
