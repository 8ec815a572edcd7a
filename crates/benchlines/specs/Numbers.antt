-- The numbers of a line, by their places. Assumes nothing.
use Rattle.std.specs.Prelude.{ℕ, zero, suc, ◌+◌, List, [], ◌∷◌, Ok, Err, Result, slice_index_or}
use Rattle.model.specs.declared.fault.LineFault.{LineFault}
use Rattle.lines.specs.Numbers.{number_of, then_do}

-- the number that was read, and 0 where there is none
abbrev pub said : Result ℕ LineFault → ℕ
said (Ok n) = n
said (Err e) = 0

-- the number that the field at a place says
abbrev pub number_at : List (List ℕ) → ℕ → ℕ
number_at fs place = said (number_of (slice_index_or fs place []))

-- each of so many fields from a place on is a number, or the first that is none is refused
abbrev pub checked : List (List ℕ) → ℕ → ℕ → Result (Unit {0}) LineFault
checked fs place zero = Ok tt
checked fs place (suc n) = then_do (number_of (slice_index_or fs place [])) (λ x. checked fs (place + 1) n)

-- the numbers that so many fields from a place on say
abbrev pub numbers_at : List (List ℕ) → ℕ → ℕ → List ℕ
numbers_at fs place zero = []
numbers_at fs place (suc n) = number_at fs place ∷ numbers_at fs (place + 1) n

-- the same, if each of these fields is a number, or else the refusal of the first that is none
abbrev pub numbers_of : List (List ℕ) → ℕ → ℕ → Result (List ℕ) LineFault
numbers_of fs place n = then_do (checked fs place n) (λ u. Ok (numbers_at fs place n))
