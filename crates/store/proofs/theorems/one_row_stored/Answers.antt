use Rattle.store.proofs.theorems.one_row_stored.Goals as goal

pub returns : goal.returns
returns c = λ row key kind budget deadline period. rw (key, kind, budget, deadline, period)
