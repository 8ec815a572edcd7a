-- What is true of the same-period judge besides the laws. Assumes nothing.
use Rattle.std.specs.Prelude.{◌≡◌, ℕ, true, false, T, List, [], ◌∷◌, ◌++◌, replicate, negsuc, nat_le}
use Rattle.std.proofs.Common.{lit≤}
use Rattle.model.specs.declared.timing.Timing.{Timing}
use Rattle.model.specs.Scale.{scale}
use Rattle.model.specs.Share.{spare}
use Rattle.guest.specs.Together.{guest_yes}

-- beside any timing no tail at all gets a yes, so a larger allowance than this judge's would break the law
abbrev pub OffersMost : Type 0
OffersMost = (x : Timing) (l : List Timing) (tail : Timing) → tail.budget ≡ tail.deadline → guest_yes scale ((x ∷ l) ++ (tail ∷ [])) ≡ false

-- a budget in every 41 ticks
abbrev pub in_41 : (c : ℕ) → T (nat_le 1 c) → T (nat_le c 41) → Timing
in_41 c some fits = record { budget = c; deadline = 41; period = 41; some = lit≤ some; fits = lit≤ fits; constrained = lit≤ tt; short = lit≤ tt }

-- 23 of budget 1 and 9 of budget 2: 41 ticks in all
abbrev pub brim : List Timing
brim = replicate 23 (in_41 1 tt tt) ++ replicate 9 (in_41 2 tt tt)

-- they get a yes, and leave a spare share of -31: no lawful judge goes further
pub record BoundReached : Type 0 where
  pub accepted : guest_yes scale brim ≡ true
  pub over : spare scale brim ≡ negsuc 30
