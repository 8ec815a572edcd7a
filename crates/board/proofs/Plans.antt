-- What edits of processors do to the plan. Assumes nothing.
use Rattle.std.proofs.Common.{◌≡◌, ℕ, ◌+◌, List, [], ◌∷◌, ◌++◌, map, replicate}
use Rattle.std.proofs.lemmas.List.{map_push, replicate_more}

-- one more processor without rows
pub map_grown :
    {X Y : Type 0} (f : X → Y) (xs ys : List X) (x : X) (e : Y) (n : ℕ) →
    ys ≡ xs ++ (x ∷ []) → map f xs ≡ replicate n e → f x ≡ e → map f ys ≡ replicate (n + 1) e
map_grown f xs ys x e n grown all same = rw (grown, map_push f xs x, all, same, replicate_more n e)
