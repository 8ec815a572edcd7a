use Rattle.model.specs.Row.{due}
use Rattle.processor.proofs.rows.Processor.due.Given as goal

abbrev pub ghost-sum_of : goal.ghost-sum_of
ghost-sum_of a = due
