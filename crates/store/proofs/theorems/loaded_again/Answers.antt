use Rattle.store.proofs.LoadedPlans.{loaded_again}
use Rattle.store.proofs.Stored.{sayable_reloads}
use Rattle.store.proofs.theorems.loaded_again.Goals as goal

pub returns : goal.returns
returns g c =
    let accepts = g.J.Judge.accepts c.args.judge.now in
    record { computed = loaded_again accepts; rules = sayable_reloads accepts }
