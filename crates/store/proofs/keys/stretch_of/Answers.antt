use Rattle.std.proofs.Common.{refl, rules, ap, ◌+◌}
use Rattle.std.proofs.lemmas.List.Recursion.{is_sum_by}
use Rattle.model.specs.Row.{due}
use Rattle.store.specs.Keys.{stretch}
use Rattle.store.proofs.Pieces.{stretch_due}
use Rattle.store.proofs.keys.stretch_of.Goals as goal

pub returns : goal.returns
returns c = search (rules, is_sum_by stretch due refl (λ row rows. ap (λ n. n + stretch rows) (stretch_due row)))
