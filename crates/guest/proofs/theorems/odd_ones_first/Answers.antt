use Rattle.guest.proofs.Ranked.{even_only_then}
use Rattle.guest.proofs.theorems.odd_ones_first.Goals as goal

pub returns : goal.returns
returns c = λ n calls answers last promised. even_only_then promised.history promised.first_in_rank
