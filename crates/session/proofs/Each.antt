-- A text for each element of a list, written one after the other. Assumes nothing.
use Rattle.std.proofs.Common.{◌≡◌, ℕ, ◌+◌, ◌<◌, ◌≤◌, List, [], ◌∷◌, ◌++◌, length, get_or, take, sym, ap, ◌∙◌, subst}
use Rattle.std.specs.List.{flat_map}
use Rattle.std.proofs.lemmas.List.{take_more, flat_map_more}
use Rattle.lines.specs.Replies.{Wrote}
use Rattle.lines.proofs.Puts.{wrote_then}

pub wrote_each_more : {X : Type 0} (f : X → List ℕ) (xs : List X) (i : ℕ) (x : X) → i < length xs → x ≡ get_or xs i x
    → (out : List ℕ) (at : ℕ) (mid : List ℕ) (place : ℕ) (after : List ℕ) (end : ℕ) → at ≤ length out
    → Wrote out at (flat_map f (take i xs)) mid place → Wrote mid place (f x) after end → Wrote out at (flat_map f (take (i + 1) xs)) after end
wrote_each_more f xs i x here is out at mid place after end within first second =
    let longer : flat_map f (take i xs) ++ f x ≡ flat_map f (take (i + 1) xs) =
    flat_map_more f [] (take i xs) x ∙ ap (flat_map f) (ap (λ y. take i xs ++ (y ∷ [])) is ∙ sym (take_more xs i x here)) in
    subst (λ t. Wrote out at t after end) longer (wrote_then out at (flat_map f (take i xs)) mid place (f x) after end within first second)
