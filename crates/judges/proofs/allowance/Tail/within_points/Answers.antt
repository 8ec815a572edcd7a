use Rattle.std.proofs.Common.{◌≡◌, suc, ap, ◌∙◌, arith}
use Rattle.model.specs.Scale.{scale}
use Rattle.judges.specs.Allowance.{within_points}
use Rattle.judges.proofs.allowance.Tail.within_points.Goals as goal

pub returns : goal.returns
returns c =
    let n = c.args.self.now.curve.steps in
    let all : c.loop-k.k ≡ suc n = omega arith in
    c.loop-k.invariant
    ∙ ap (λ k. within_points scale n c.args.self.now.curve.list.now c.args.self.now.period c.args.start c.args.x.now k c.args.room.ticks) all
