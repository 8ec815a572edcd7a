use Rattle.std.proofs.Common.{refl, rules}
use Rattle.std.proofs.lemmas.List.Recursion.{and_is}
use Rattle.store.specs.Keys.{piece, alike}
use Rattle.store.proofs.Reaches.{blank}
use Rattle.store.proofs.keys.same_period.Goals as goal

pub returns : goal.returns
returns c =
    and_is (alike c.args.period) (piece c.args.period) refl (λ _ _. refl) c.args.rows.now blank _ (search rules) (search rules)
