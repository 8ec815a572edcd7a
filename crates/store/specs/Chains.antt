-- The chains of an image, followed in rising processor order. Assumes nothing.
use Rattle.std.specs.Prelude.{ℕ, zero, suc, ◌+◌, ◌-◌, ◌*◌, Bool, true, false, cond, ◌&&◌, ◌||◌, List, [], ◌∷◌, ◌++◌, take, replicate, Some, None, Ok, Err, Option, Result, ◌==◌, nat_lt, slice_index_or, slice_set}
use Rattle.store.specs.declared.fault.BufferFault.{BufferFault}
use Rattle.store.specs.declared.fault.BufferRule.{BufferRule}
use Rattle.store.specs.Fault.{fault}
use Rattle.store.specs.Numbers.{two_at}

-- the number of the first record of a processor's chain, processors counted from 0
abbrev pub head_at : List ℕ → ℕ → ℕ
head_at bytes p = two_at bytes (4 + 2 * p)

-- a number above the record count r, or of a record that was reached before
abbrev pub barred : ℕ → List Bool → ℕ → Bool
barred r reached number = nat_lt r number || slice_index_or reached (number - 1) false

abbrev pub reach : List Bool → ℕ → List Bool
reach reached number = slice_set reached (number - 1) true

-- The chain that goes on with a number, along next to zero, with room for so many records more: its records after
-- those so far, and which records have been reached then. None where it meets a number that is barred, or has no room.
unfoldable pub walk : (ℕ → ℕ) → ℕ → ℕ → ℕ → List ℕ → List Bool → Option (List ℕ × List Bool)
walk next r zero number so_far reached = cond (number == 0) (Some (so_far, reached)) None
walk next r (suc room) number so_far reached =
    cond (number == 0) (Some (so_far, reached))
    (cond (barred r reached number) None (walk next r room (next number) (so_far ++ (number ∷ [])) (reach reached number)))

-- what follows a sound chain, or the refusal of this processor's chain
abbrev pub sound_or : {A : Type 0} → ℕ → Option (List ℕ × List Bool) → (List ℕ × List Bool → Result A BufferFault) → Result A BufferFault
sound_or place None more = Err (fault BufferRule.Chains place)
sound_or place (Some w) more = more w

-- The chains of so many processors from number p on, after those so far, and which records have been reached then;
-- or the first processor whose chain fails. A chain has room for 32 records.
unfoldable pub walks :
    (ℕ → ℕ) → (ℕ → ℕ) → ℕ → ℕ → ℕ → List (List ℕ) → List Bool → Result (List (List ℕ) × List Bool) BufferFault
walks head next r zero p so_far reached = Ok (so_far, reached)
walks head next r (suc left) p so_far reached =
    sound_or (p + 1) (walk next r 32 (head p) [] reached) (λ w. walks head next r left (p + 1) (so_far ++ (w.0 ∷ [])) w.1)

abbrev pub all_true : List Bool → Bool
all_true [] = true
all_true (b ∷ l) = b && all_true l

-- a record is left over
abbrev pub covered : ℕ → Result (List (List ℕ) × List Bool) BufferFault → Result (List (List ℕ)) BufferFault
covered r (Ok w) = cond (all_true (take r w.1)) (Ok w.0) (Err (fault BufferRule.Chains 0))
covered r (Err f) = Err f

-- the chains of an image of m processors and r records, none of whose 256 places was reached before
abbrev pub chains : (ℕ → ℕ) → (ℕ → ℕ) → ℕ → ℕ → Result (List (List ℕ)) BufferFault
chains head next m r = covered r (walks head next r m 0 [] (replicate 256 false))
