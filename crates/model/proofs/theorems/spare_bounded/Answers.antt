use Rattle.model.specs.Scale.{scale}
use Rattle.model.proofs.Spare.{spare_bounded}
use Rattle.model.proofs.theorems.spare_bounded.Goals as goal

pub returns : goal.returns
returns g c = λ l accepted.
    let j = c.args.judge.now in
    spare_bounded scale l (g.met.J.Judge.few j l accepted) (g.met.J.Judge.sound j l accepted)
