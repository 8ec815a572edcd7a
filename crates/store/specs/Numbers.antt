-- Numbers as bytes, the lowest byte first. Assumes nothing.
use Rattle.std.specs.Prelude.{ℕ, ◌+◌, ◌*◌, ◌/◌, ◌%◌, List, [], ◌∷◌, slice_index}

-- a number below 65,536 as two bytes
abbrev pub two_bytes : ℕ → List ℕ
two_bytes n = (n % 256) ∷ (n / 256) ∷ []

-- a number below 4,294,967,296 as four bytes
abbrev pub four_bytes : ℕ → List ℕ
four_bytes n = (n % 256) ∷ (n / 256 % 256) ∷ (n / 65536 % 256) ∷ (n / 16777216) ∷ []

-- the byte at a place
abbrev pub byte_at : List ℕ → ℕ → ℕ
byte_at bytes i = slice_index bytes i

-- the number that two bytes hold, and four
abbrev pub two_at : List ℕ → ℕ → ℕ
two_at bytes i = byte_at bytes i + 256 * byte_at bytes (i + 1)

abbrev pub four_at : List ℕ → ℕ → ℕ
four_at bytes i =
    byte_at bytes i + 256 * byte_at bytes (i + 1) + 65536 * byte_at bytes (i + 2) + 16777216 * byte_at bytes (i + 3)
