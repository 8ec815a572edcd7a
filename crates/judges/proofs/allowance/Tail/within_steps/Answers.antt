use Rattle.std.proofs.Common.{◌≡◌, ◌-◌, ap, ◌∙◌, arith}
use Rattle.model.specs.Scale.{scale}
use Rattle.judges.specs.Allowance.{within_steps}
use Rattle.judges.proofs.allowance.Tail.within_steps.Goals as goal

pub returns : goal.returns
returns c =
    let n = c.args.self.now.curve.steps in
    let all : c.loop-turns.turns - 1 ≡ n = omega arith in
    c.loop-turns.invariant
    ∙ ap (λ k. within_steps scale n c.args.self.now.curve.list.now c.args.self.now.period k c.args.room.ticks) all
