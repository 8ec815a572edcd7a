use Rattle.std.proofs.Common.{not, refl, rules}
use Rattle.std.proofs.lemmas.List.Recursion.{is_count_by}
use Rattle.model.specs.Row.{is_tail}
use Rattle.store.specs.Keys.{firsts}
use Rattle.store.proofs.Pieces.{firsts_count}
use Rattle.store.proofs.keys.count_firsts.Goals as goal

pub returns-clause-value : goal.returns-clause-value
returns-clause-value c = search (rules, is_count_by firsts (λ row. not (is_tail row.kind)) refl firsts_count)
