-- A buffer that bytes are written into. Assumes nothing.
use Rattle.std.specs.Prelude.{ℕ, ◌+◌, List, ◌++◌, length, take, drop}

-- the buffer with these bytes from a place on, and as it was before them and beyond them
abbrev pub overwritten : List ℕ → ℕ → List ℕ → List ℕ
overwritten buffer at bytes = take at buffer ++ (bytes ++ drop (at + length bytes) buffer)
