use Rattle.std.proofs.Common.{ap}
use Rattle.store.specs.Image.{image}
use Rattle.store.proofs.RoundTrips.{saved_loads}
use Rattle.store.proofs.Stored.{sayable_again}
use Rattle.store.proofs.theorems.saved_again.Goals as goal

pub returns : goal.returns
returns g c =
    let accepts = g.J.Judge.accepts c.args.judge.now in
    record {
      computed = λ plan before after answer ok len loaded. ap image ((saved_loads accepts plan before after answer ok len loaded).1);
      rules = sayable_again accepts;
    }
