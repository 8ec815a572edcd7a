use Rattle.std.proofs.Common.{None, Some, sym, ap, ◌∙◌, arith}
use Rattle.store.specs.InPlace.{all_held}
use Rattle.store.specs.Answers.{answered}
use Rattle.store.proofs.Lowest.{key_is_lowest, key_told, keys_told, none_told}
use Rattle.store.proofs.keys.Plan.check_keys.Goals as goal

pub returns-in-Some : goal.returns-in-Some
returns-in-Some c =
    let low = key_is_lowest (all_held c.args.self.now) (Some c.in-Some.key) c.requires (sym c.in-Some.is ∙ c.lowest_bad.ensures) in
    rw c.at.ensures (ap answered (sym (key_told _ _ c.in-Some.key low.0 low.1)))

pub returns-then-count_keys-gt-MOST_KEYS : goal.returns-then-count_keys-gt-MOST_KEYS
returns-then-count_keys-gt-MOST_KEYS c =
    let low = key_is_lowest (all_held c.args.self.now) None c.requires (sym c.in_default.is ∙ c.lowest_bad.ensures) in
    rw c.anywhere.ensures (ap answered (sym (keys_told _ _ low (omega arith))))

pub returns : goal.returns
returns c =
    let low = key_is_lowest (all_held c.args.self.now) None c.requires (sym c.in_default.is ∙ c.lowest_bad.ensures) in
    ap answered (sym (none_told _ _ low (omega arith)))
