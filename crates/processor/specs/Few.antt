-- What a short list holds. Assumes nothing.
use Rattle.std.specs.Prelude.{ℕ, cond, List, [], ◌∷◌, ◌++◌, length, take, nat_lt}
use Rattle.processor.specs.declared.few.Few.{Few}

-- the elements in use, in their order
abbrev pub held : {X : Type 0} {n : ℕ} → Few X n → List X
held l = take l.len l.items

-- a list with one more at the end, unless it has n already
abbrev pub pushed : {X : Type 0} → ℕ → List X → X → List X
pushed n l x = cond (nat_lt (length l) n) (l ++ (x ∷ [])) l
