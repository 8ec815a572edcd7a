use Rattle.store.proofs.RoundTrips.{saved_loads}
use Rattle.store.proofs.Stored.{sayable_loads}
use Rattle.store.proofs.theorems.saved_loads.Goals as goal

pub returns : goal.returns
returns g c =
    let accepts = g.J.Judge.accepts c.args.judge.now in
    record { computed = saved_loads accepts; rules = sayable_loads accepts }
