use Rattle.std.proofs.Common.{eqb, refl, rules}
use Rattle.std.proofs.lemmas.List.Recursion.{is_count_by}
use Rattle.model.specs.Row.{part}
use Rattle.store.specs.Keys.{times}
use Rattle.store.proofs.Pieces.{times_count}
use Rattle.store.proofs.keys.count_part.Goals as goal

pub returns : goal.returns
returns c = search (rules, is_count_by (times c.args.wanted) (λ row. eqb (part row.kind) c.args.wanted) refl (times_count c.args.wanted))
