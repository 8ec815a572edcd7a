-- One more at the end of a list that has room, or has none. Assumes nothing.
use Rattle.std.proofs.Common.{◌≡◌, ℕ, ◌<◌, ◌≤◌, ◌⊎◌, inl, inr, Bool, cond, List, [], ◌∷◌, ◌++◌, length, take, sym, ap, ◌∙◌, le-ltb, lt-ltb, arith}
use Rattle.std.proofs.lemmas.Bool.{cases_lt}
use Rattle.std.proofs.lemmas.List.{take_all, take-append-le, length_push, length-take}
use Rattle.model.specs.declared.row.Row.{Row}
use Rattle.processor.specs.Few.{pushed}
use Rattle.processor.specs.Taking.{added}

module _ {X : Type 0} (n : ℕ) (l : List X) (x : X) where
  pub pushed_room : length l < n → pushed n l x ≡ l ++ (x ∷ [])
  pushed_room h = ap (λ (b : Bool). cond b (l ++ (x ∷ [])) l) (lt-ltb (length l) n h)

  pub pushed_full : n ≤ length l → pushed n l x ≡ l
  pushed_full h = ap (λ (b : Bool). cond b (l ++ (x ∷ [])) l) (le-ltb (length l) n h)

pub added_room : (rows : List Row) (row : Row) → length rows < 32 → added rows row ≡ rows ++ (row ∷ [])
added_room rows row h = ap (λ (b : Bool). cond b (rows ++ (row ∷ [])) rows) (lt-ltb (length rows) 32 h)

-- pushing while there is room keeps the first n
pub pushed_take : {X : Type 0} (n : ℕ) (before : List X) (x : X) (list more : List X) → list ≡ take n before → more ≡ pushed n list x → more ≡ take n (before ++ (x ∷ []))
pushed_take n before x list more e p = p ∙ ap (λ l. pushed n l x) e ∙ kept (cases_lt (length before) n)
  where
    kept : (length before < n) ⊎ (n ≤ length before) → pushed n (take n before) x ≡ take n (before ++ (x ∷ []))
    kept (inl room) =
        rw (take_all n before (omega arith)) (pushed_room n before x room ∙ sym (take_all n (before ++ (x ∷ [])) (omega (arith, length_push before x))))
    kept (inr full) = pushed_full n (take n before) x (omega (arith, length-take n before)) ∙ sym (take-append-le n before (x ∷ []) full)
