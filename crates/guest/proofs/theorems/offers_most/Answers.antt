use Rattle.std.proofs.Common.{arith}
use Rattle.model.specs.Scale.{scale}
use Rattle.guest.proofs.Most.{offers_most}
use Rattle.guest.proofs.theorems.offers_most.Goals as goal

pub returns : goal.returns
returns c = offers_most scale (omega arith)
