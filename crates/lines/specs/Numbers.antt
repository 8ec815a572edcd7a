-- What a field of digits says. Assumes nothing.
use Rattle.std.specs.Prelude.{ℕ, ◌+◌, ◌-◌, ◌*◌, Bool, true, cond, ◌&&◌, List, [], ◌∷◌, Ok, Err, Result, nat_le}
use Rattle.model.specs.declared.fault.LineFault.{LineFault}

-- a byte from `0` to `9`; a sign or a point is none
abbrev pub is_digit : ℕ → Bool
is_digit b = nat_le 48 b && nat_le b 57

abbrev pub all_digits : List ℕ → Bool
all_digits [] = true
all_digits (b ∷ l) = is_digit b && all_digits l

-- the decimal value of digits, read after a value v; zeros in front add nothing
abbrev pub value_after : ℕ → List ℕ → ℕ
value_after v [] = v
value_after v (b ∷ l) = value_after (v * 10 + (b - 48)) l

-- digits from v on, up to the largest 32-bit number; anything else is refused
abbrev pub number_after : ℕ → List ℕ → Result ℕ LineFault
number_after v l = cond (all_digits l && nat_le (value_after v l) 4294967295) (Ok (value_after v l)) (Err LineFault.Number)

-- the number that a field says; an empty one says none
abbrev pub number_of : List ℕ → Result ℕ LineFault
number_of [] = Err LineFault.Number
number_of (b ∷ f) = number_after 0 (b ∷ f)

-- what comes first, and then what follows from its value; a refusal passes through
abbrev pub then_do : {A B : Type 0} → Result A LineFault → (A → Result B LineFault) → Result B LineFault
then_do (Ok x) f = f x
then_do (Err e) f = Err e
