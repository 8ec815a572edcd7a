-- The element at a place counted from 1. Assumes nothing.
use Rattle.std.proofs.Common.{◌≡◌, ℕ, ◌-◌, ◌<◌, ◌≤◌, ◌⊎◌, List, map, length, get_or, Some, None, sym, refl, ap, ◌∙◌, ⊎_elim, arith, ne_eqb}
use Rattle.std.proofs.lemmas.List.{get_or-map, length-map}
use Rattle.std.proofs.lemmas.Option.{slice_get_past, slice_get-get_or}
use Rattle.processor.specs.Look.{counted}

pub counted_past : {A : Type 0} (l : List A) (n : ℕ) → (n < 1) ⊎ (length l < n) → counted l n ≡ None
counted_past l n out =
    ⊎_elim
    (λ (z : n < 1). let o : n ≡ 0 = omega arith in rw o refl)
    (λ (z : length l < n).
    let p : length l ≤ n - 1 = omega arith in rw (ne_eqb n 0 (λ (e : n ≡ 0). omega arith)) (slice_get_past l (n - 1) p))
    out

pub counted_in :
    {A : Type 0} (l : List A) (n : ℕ) (d : A) → 1 ≤ n → n ≤ length l → counted l n ≡ Some (get_or l (n - 1) d)
counted_in l n d some within =
    let p : n - 1 < length l = omega arith in
    rw (ne_eqb n 0 (λ (e : n ≡ 0). omega arith)) (slice_get-get_or l (n - 1) d p)

-- what was read at an index, seen through f
pub read_map :
    {A B : Type 0} (f : A → B) (l : List A) (i : ℕ) (x : A) (e : B) → i < length l → x ≡ get_or l i x →
    f x ≡ get_or (map f l) i e
read_map f l i x e h here = ap f here ∙ sym (get_or-map f l i x e h)

pub counted_map :
    {A B : Type 0} (f : A → B) (l : List A) (n : ℕ) (x : A) → 1 ≤ n → n ≤ length l → x ≡ get_or l (n - 1) x →
    counted (map f l) n ≡ Some (f x)
counted_map f l n x some within here =
    let h : n - 1 < length l = omega arith in
    counted_in (map f l) n (f x) some (omega (arith, length-map l f)) ∙ ap Some (sym (read_map f l (n - 1) x (f x) h here))
