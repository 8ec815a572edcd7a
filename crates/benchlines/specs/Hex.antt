-- Bytes as hexadecimal digits. Assumes nothing.
use Rattle.std.specs.Prelude.{ℕ, ◌+◌, ◌-◌, ◌*◌, ◌/◌, ◌%◌, Bool, cond, ◌&&◌, ◌||◌, List, [], ◌∷◌, ◌++◌, length, drop, is_some, Some, None, codes, Option, ◌==◌, nat_le, nat_lt}
use Rattle.std.specs.List.{list_all, flat_map}
use Rattle.std.specs.Str.{bytes_eq}

-- `0` to `9` are 0 to 9, and `a` to `f` and `A` to `F` are 10 to 15
abbrev pub digit_value : ℕ → Option ℕ
digit_value b =
    cond (nat_le 48 b && nat_le b 57) (Some (b - 48))
    (cond (nat_le 97 b && nat_le b 102) (Some (b - 97 + 10))
    (cond (nat_le 65 b && nat_le b 70) (Some (b - 65 + 10)) None))

abbrev pub value_of : Option ℕ → ℕ
value_of (Some v) = v
value_of None = 0

abbrev pub all_digits : List ℕ → Bool
all_digits = list_all (λ b. is_some (digit_value b))

-- a text that writes bytes: digits in pairs, or `-` alone
abbrev pub is_image : List ℕ → Bool
is_image text = bytes_eq text (codes "-") || (length text % 2 == 0 && all_digits text)

-- the byte of two digits, the high half first
abbrev pub byte_of : ℕ → ℕ → ℕ
byte_of high low = value_of (digit_value high) * 16 + value_of (digit_value low)

-- the bytes that digits write, two a byte, the high half first; what is left over, as the `-` alone, writes none
abbrev pub bytes_of : List ℕ → List ℕ
bytes_of [] = []
bytes_of (a ∷ []) = []
bytes_of (a ∷ (b ∷ l)) = (value_of (digit_value a) * 16 + value_of (digit_value b)) ∷ bytes_of l

-- a text that writes bytes for which there is room
abbrev pub fits : List ℕ → ℕ → Bool
fits text room = is_image text && nat_le (length text / 2) room

-- how many bytes were written, if there was room
abbrev pub decoded : List ℕ → ℕ → Option ℕ
decoded text room = cond (fits text room) (Some (length text / 2)) None

-- the bytes at the buffer's front and those beyond as they were; a text that is refused changes nothing
abbrev pub buffer_after : List ℕ → List ℕ → List ℕ
buffer_after text buffer = cond (fits text (length buffer)) (bytes_of text ++ drop (length text / 2) buffer) buffer

-- the digit of a value below 16, in lower case
abbrev pub hex_digit : ℕ → ℕ
hex_digit v = cond (nat_lt v 10) (48 + v) (97 + (v - 10))

abbrev pub digits_of : List ℕ → List ℕ
digits_of = flat_map (λ b. hex_digit (b / 16) ∷ (hex_digit (b % 16) ∷ []))
