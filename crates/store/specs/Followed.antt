-- The chains of an image, in place. Assumes nothing.
use Rattle.std.specs.Prelude.{◌≡◌, ℕ, Bool, List, Some, None, Ok, Err, Option, Result}
use Rattle.processor.specs.declared.few.Few.{Few}
use Rattle.processor.specs.Few.{held}
use Rattle.store.specs.declared.fault.BufferFault.{BufferFault}
use Rattle.store.specs.declared.fault.BufferRule.{BufferRule}
use Rattle.store.specs.declared.lists.Lists.{Lists}
use Rattle.store.specs.Fault.{fault}
use Rattle.store.specs.InPlace.{all_held}

-- the chain and what has been reached then, or the refusal of this processor's chain
abbrev pub Followed : Option (List ℕ × List Bool) → ℕ → List Bool → Result (Few ℕ 32) BufferFault → Type 0
Followed w place reached (Ok chain) = w ≡ Some (held chain, reached)
Followed w place reached (Err f) = (w ≡ None) × (f ≡ fault BufferRule.Chains place)

-- the chains of m processors, or the refusal
abbrev pub Chained : ℕ → Result (List (List ℕ)) BufferFault → Result (Lists ℕ) BufferFault → Type 0
Chained m w (Ok chains) = (w ≡ Ok (all_held chains)) × (chains.count ≡ m)
Chained m w (Err f) = w ≡ Err f
