-- No share and no density is above the scale. Assumes nothing.
use Rattle.std.proofs.Common.{ℕ, ◌*◌, ◌≤◌, mul_comm, mul-le-mul_left, arith}
use Rattle.model.specs.declared.timing.Timing.{Timing}
use Rattle.model.specs.Share.{share, density}
use Rattle.model.proofs.Ceiling.{ceiling_least}

pub share_le : (s : ℕ) (x : Timing) → share s x ≤ s
share_le s x =
    let p : s * x.budget ≤ s * x.period = mul-le-mul_left s (omega arith) in
    ceiling_least (x.budget * s) x.period s (omega arith) (omega (arith, mul_comm x.budget s))

pub density_le : (s : ℕ) (x : Timing) → density s x ≤ s
density_le s x =
    let p : s * x.budget ≤ s * x.deadline = mul-le-mul_left s (omega arith) in
    ceiling_least (x.budget * s) x.deadline s (omega arith) (omega (arith, mul_comm x.budget s))
