-- A timing of given numbers. Assumes nothing.
use Rattle.std.specs.Prelude.{ℕ, ◌≤◌, Some, None, Option}
use Rattle.std.proofs.Math.Decide.{dec_le}
use Rattle.model.specs.declared.timing.Timing.{Timing}

-- the timing of these numbers, if they keep the limits
abbrev pub timed_by : (c d t : ℕ) → Dec (1 ≤ c) → Dec (c ≤ d) → Dec (d ≤ t) → Dec (t ≤ 100000) → Option Timing
timed_by c d t (no n) fits constrained short = None
timed_by c d t (yes some) (no n) constrained short = None
timed_by c d t (yes some) (yes fits) (no n) short = None
timed_by c d t (yes some) (yes fits) (yes constrained) (no n) = None
timed_by c d t (yes some) (yes fits) (yes constrained) (yes short) =
    Some (record { budget = c; deadline = d; period = t; some = some; fits = fits; constrained = constrained; short = short })

-- the same, each limit decided
abbrev pub timed : ℕ → ℕ → ℕ → Option Timing
timed c d t = timed_by c d t (dec_le 1 c) (dec_le c d) (dec_le d t) (dec_le t 100000)
