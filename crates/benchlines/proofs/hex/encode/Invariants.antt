use Rattle.std.proofs.Common.{◌≡◌, take, string_bytes}
use Rattle.benchlines.specs.Hex.{digits_of}
use Rattle.benchlines.proofs.hex.encode.Given as goal

abbrev pub invariant-loop-byte : goal.invariant-loop-byte
invariant-loop-byte l = string_bytes l.text ≡ digits_of (take l.byte-index l.bytes)
