-- What is left of a list that is seen through a function, and what was taken, one element on and at the end. Assumes nothing.
use Rattle.std.proofs.Common.{◌≡◌, ℕ, ◌+◌, ◌<◌, ◌≤◌, List, [], ◌∷◌, ◌++◌, map, length, get_or, take, drop, sym, ap, ◌∙◌}
use Rattle.std.proofs.lemmas.List.{at_drop_more, at_drop_all, map_more}

pub seen_more :
    {X B Y : Type 0} (f : X → B) (F : List B → Y) (xs : List X) (i : ℕ) (x : X) → i < length xs → x ≡ get_or xs i x →
    F (map f (drop i xs)) ≡ F (f x ∷ map f (drop (i + 1) xs))
seen_more f F xs i x h is =
    at_drop_more (λ q. F (map f q)) xs i x h ∙ ap (λ q. F (f q ∷ map f (drop (i + 1) xs))) (sym is)

pub seen_all :
    {X B Y : Type 0} (f : X → B) (F : List B → Y) (xs : List X) (i : ℕ) → length xs ≤ i → F (map f (drop i xs)) ≡ F []
seen_all f F xs i h = at_drop_all (λ q. F (map f q)) xs i h

-- the same of the list itself
pub left_more :
    {X Y : Type 0} (F : List X → Y) (xs : List X) (i : ℕ) (x : X) → i < length xs → x ≡ get_or xs i x →
    F (drop i xs) ≡ F (x ∷ drop (i + 1) xs)
left_more F xs i x h is = at_drop_more F xs i x h ∙ ap (λ q. F (q ∷ drop (i + 1) xs)) (sym is)

-- the front of a list, one element on
pub taken_more :
    {X B : Type 0} (f : X → B) (xs : List X) (i : ℕ) (x : X) → i < length xs → x ≡ get_or xs i x →
    map f (take (i + 1) xs) ≡ map f (take i xs) ++ (f x ∷ [])
taken_more f xs i x h is = map_more f xs i x h ∙ ap (λ q. map f (take i xs) ++ (f q ∷ [])) (sym is)
