use Rattle.std.proofs.Common.{◌≡◌, map, take, drop}
use Rattle.benchlines.proofs.Hexes.{pair_byte}
use Rattle.benchlines.proofs.hex.decode.Given as goal

-- the bytes of the pairs so far, and those beyond as they were
abbrev pub invariant-loop-i : goal.invariant-loop-i
invariant-loop-i l = (take l.i l.bytes ≡ map pair_byte (take l.i l.pairs)) × (drop l.i l.bytes ≡ drop l.i l.initial.bytes)
