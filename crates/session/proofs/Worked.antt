-- A whole session, worked out by computing. Assumes nothing.
use Rattle.std.proofs.Common.{refl}
use native.Mathlib.Decide.{dec_le}
use Rattle.std.specs.Fmt.{digits}
use Rattle.session.specs.Examples.{SessionShown}

pub session_shown : SessionShown
unfolding digits dec_le
session_shown = record { first = refl; later = refl }
