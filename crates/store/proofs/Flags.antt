-- A test of all flags, one on. Assumes nothing.
use Rattle.std.proofs.Common.{◌≡◌, ℕ, ◌+◌, ◌<◌, Bool, ◌&&◌, List, length, get_or, drop, ap, ◌∙◌}
use Rattle.std.proofs.lemmas.List.{at_drop_more}
use Rattle.store.specs.Chains.{all_true}

-- what is left, where the first of it is known
pub flags_at :
    (flags : List Bool) (i : ℕ) (b d : Bool) → i < length flags → get_or flags i d ≡ b →
    all_true (drop i flags) ≡ (b && all_true (drop (i + 1) flags))
flags_at flags i b d h e =
    at_drop_more all_true flags i d h ∙ ap (λ x. x && all_true (drop (i + 1) flags)) e
