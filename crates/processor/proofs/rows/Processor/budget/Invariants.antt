use Rattle.processor.proofs.rows.Processor.budget.Given as goal

abbrev pub ghost-sum_of : goal.ghost-sum_of
ghost-sum_of a = λ row. row.timing.budget
