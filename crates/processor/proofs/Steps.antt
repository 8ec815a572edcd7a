-- One step of a loop over a list, for a function of what is left of it. Assumes nothing.
use Rattle.std.proofs.Common.{◌≡◌, ℕ, ◌+◌, ◌<◌, ◌≤◌, Bool, true, false, ◌||◌, List, [], ◌∷◌, ◌++◌, map, length, get_or, take, drop, sym, ap, ◌∙◌, arith}
use Rattle.std.proofs.lemmas.List.{at_drop_more, at_drop_all, length-map, map_more}
use Rattle.std.specs.List.{list_any}
use Rattle.processor.proofs.Places.{read_map}

pub step :
    {X Y : Type 0} (F : List X → Y) (xs : List X) (i : ℕ) (x : X) → i < length xs → x ≡ get_or xs i x →
    F (drop i xs) ≡ F (x ∷ drop (i + 1) xs)
step F xs i x h here = at_drop_more F xs i x h ∙ ap (λ y. F (y ∷ drop (i + 1) xs)) (sym here)

-- the same through a map, as the plan is of processors
pub step_map :
    {X Z Y : Type 0} (f : X → Z) (F : List Z → Y) (xs : List X) (i : ℕ) (x : X) → i < length xs → x ≡ get_or xs i x →
    F (drop i (map f xs)) ≡ F (f x ∷ drop (i + 1) (map f xs))
step_map f F xs i x h here =
    step F (map f xs) i (f x) (omega (arith, length-map xs f)) (read_map f xs i x (f x) h here)

-- whether some element of what is left passes a test
module _ {X : Type 0} (test : X → Bool) (xs : List X) (i : ℕ) (x : X) (h : i < length xs) (here : x ≡ get_or xs i x) where
  pub any_here : test x ≡ true → list_any test (drop i xs) ≡ true
  any_here e = step (list_any test) xs i x h here ∙ ap (λ b. b || list_any test (drop (i + 1) xs)) e

  pub any_past : test x ≡ false → list_any test (drop i xs) ≡ list_any test (drop (i + 1) xs)
  any_past e = step (list_any test) xs i x h here ∙ ap (λ b. b || list_any test (drop (i + 1) xs)) e

-- what a map gives, one more
pub map_step :
    {X Y : Type 0} (f : X → Y) (xs : List X) (i : ℕ) (x : X) → i < length xs → x ≡ get_or xs i x →
    (ys zs : List Y) → ys ≡ map f (take i xs) → zs ≡ ys ++ (f x ∷ []) → zs ≡ map f (take (i + 1) xs)
map_step f xs i x h here ys zs before after =
    after ∙ ap (λ l. l ++ (f x ∷ [])) before ∙ ap (λ y. map f (take i xs) ++ (f y ∷ [])) here ∙ sym (map_more f xs i x h)

-- the same through a map
module _ {X Z : Type 0} (f : X → Z) (test : Z → Bool) (xs : List X) (i : ℕ) where
  pub any_here_map : (x : X) → i < length xs → x ≡ get_or xs i x → test (f x) ≡ true → list_any test (drop i (map f xs)) ≡ true
  any_here_map x h here =
      any_here test (map f xs) i (f x) (omega (arith, length-map xs f)) (read_map f xs i x (f x) h here)

  pub any_past_map :
      (x : X) → i < length xs → x ≡ get_or xs i x → test (f x) ≡ false →
      list_any test (drop i (map f xs)) ≡ list_any test (drop (i + 1) (map f xs))
  any_past_map x h here =
      any_past test (map f xs) i (f x) (omega (arith, length-map xs f)) (read_map f xs i x (f x) h here)

  pub any_none_map : length xs ≤ i → list_any test (drop i (map f xs)) ≡ false
  any_none_map h = at_drop_all (list_any test) (map f xs) i (omega (arith, length-map xs f))
