-- The fields of a line: its parts between runs of spaces. Assumes nothing.
use Rattle.std.specs.Prelude.{ℕ, Bool, cond, not, List, [], ◌∷◌, ◌++◌, ◌==◌, slice_index_or}
use Rattle.std.specs.Str.{bytes_eq}

-- only byte 32 parts fields; a tab, a carriage return or a zero byte stands in a field like any other
abbrev pub is_space : ℕ → Bool
is_space b = b == 32

abbrev pub is_other : ℕ → Bool
is_other b = not (is_space b)

-- a part with no byte is no field
abbrev pub ended : List ℕ → List (List ℕ) → List (List ℕ)
ended [] fs = fs
ended (b ∷ f) fs = (b ∷ f) ∷ fs

-- the fields of what is left of a line, after the bytes f of a part that is not at its end yet
abbrev pub fields_after : List ℕ → List ℕ → List (List ℕ)
fields_after f [] = ended f []
fields_after f (b ∷ l) = cond (is_space b) (ended f (fields_after [] l)) (fields_after (f ++ (b ∷ [])) l)

abbrev pub fields : List ℕ → List (List ℕ)
fields l = fields_after [] l

-- whether the field at a place is this word
abbrev pub says : List (List ℕ) → ℕ → List ℕ → Bool
says fs k w = bytes_eq (slice_index_or fs k []) w
