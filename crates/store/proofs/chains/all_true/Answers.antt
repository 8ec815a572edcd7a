use Rattle.std.proofs.Common.{false, refl, rules}
use Rattle.std.proofs.lemmas.List.Recursion.{and_is}
use Rattle.store.specs.Chains.{all_true}
use Rattle.store.proofs.chains.all_true.Goals as goal

pub returns : goal.returns
returns c = and_is all_true (λ b. b) refl (λ _ _. refl) c.args.flags.now false _ (search rules) (search rules)
