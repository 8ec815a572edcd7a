-- What follows from a judge's laws alone. Assumes nothing.
use Rattle.std.specs.Prelude.{◌≡◌, Bool, true, List, negsuc, ◌≤ℤ◌}
use Rattle.model.specs.declared.timing.Timing.{Timing}
use Rattle.model.specs.Scale.{scale}
use Rattle.model.specs.Share.{spare}

-- the spare share of a list that gets a yes is at least -31
abbrev pub SpareBounded : (List Timing → Bool) → Type 0
SpareBounded accepts = (l : List Timing) → accepts l ≡ true → negsuc 30 ≤ℤ spare scale l
