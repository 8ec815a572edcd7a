-- Standing in a list, and lists others repetition. Assumes nothing.
use Rattle.std.proofs.Common.{◌≡◌, ℕ, zero, suc, ◌<◌, Bool, true, false, cond, eqb, ◌⊎◌, List, [], ◌∷◌, map, length, filter, sym, refl, ap, ◌∙◌, subst, inl, inr, ⊎_elim, true≢false, arith, eq-eqb, ne_eqb, eqb-true}
use Rattle.std.specs.List.{ContainsAt as Has, HoldsAt, AllByRecursion}
use Rattle.model.specs.declared.row.Row.{Row}
use Rattle.promise.specs.Layout.{Distinct}
use Rattle.promise.specs.Plan.{rows_on, of_key}
use Rattle.promise.specs.Kept.{processors}
use Rattle.board.specs.declared.admission.Placed.{Placed}

module _ {X : Type 0} where
  pub has_none : (y : X) → Has [] y → ⊥
  has_none y h = omega (arith, h.1)

  pub has_here : (x : X) (l : List X) → Has (x ∷ l) x
  has_here x l = (0, omega arith, λ d. refl)

  pub has_there : (x : X) (l : List X) (y : X) → Has l y → Has (x ∷ l) y
  has_there x l y h = (suc h.0, omega (arith, h.1), h.2)

  pub has_cases : (x : X) (l : List X) (y : X) → Has (x ∷ l) y → (x ≡ y) ⊎ Has l y
  has_cases x l y h = go h.0 h.1 h.2
    where
      go : (k : ℕ) → k < suc (length l) → HoldsAt (λ z. z ≡ y) (x ∷ l) k → (x ≡ y) ⊎ Has l y
      go zero lt at = inl (at x)
      go (suc k) lt at = inr (k, omega arith, at)

  -- what holds of each holds of one
  pub all_one : (P : X → Type 0) (l : List X) (y : X) → AllByRecursion P l → Has l y → P y
  all_one P [] y all h = absurd (has_none y h)
  all_one P (x ∷ l) y all h = ⊎_elim (λ e. subst P e all.0) (λ k. all_one P l y all.1 k) (has_cases x l y h)

  pub all_from_has : (P : X → Type 0) (l : List X) → ((y : X) → Has l y → P y) → AllByRecursion P l
  all_from_has P [] h = tt
  all_from_has P (x ∷ l) h = (h x (has_here x l), all_from_has P l (λ y k. h y (has_there x l y k)))

  -- a filter keeps what passes
  pub has_kept : (test : X → Bool) (l : List X) (y : X) → Has l y → test y ≡ true → Has (filter test l) y
  has_kept test [] y h pass = absurd (has_none y h)
  has_kept test (x ∷ l) y h pass = go (test x) refl (has_cases x l y h) (λ k. has_kept test l y k pass)
    where
      go : (b : Bool) → test x ≡ b → (x ≡ y) ⊎ Has l y → (Has l y → Has (filter test l) y) → Has (cond b (x ∷ filter test l) (filter test l)) y
      go true e (inl same) rest = subst (Has (x ∷ filter test l)) same (has_here x (filter test l))
      go true e (inr k) rest = has_there x (filter test l) y (rest k)
      go false e (inl same) rest = absurd (true≢false (sym pass ∙ ap test (sym same) ∙ e))
      go false e (inr k) rest = rest k

  pub has_of_kept : (test : X → Bool) (l : List X) (y : X) → Has (filter test l) y → Has l y × (test y ≡ true)
  has_of_kept test [] y h = absurd (has_none y h)
  has_of_kept test (x ∷ l) y h = go (test x) refl h (λ k. has_of_kept test l y k)
    where
      later : Has l y × (test y ≡ true) → Has (x ∷ l) y × (test y ≡ true)
      later r = (has_there x l y r.0, r.1)

      go : (b : Bool) → test x ≡ b → Has (cond b (x ∷ filter test l) (filter test l)) y → (Has (filter test l) y → Has l y × (test y ≡ true)) → Has (x ∷ l) y × (test y ≡ true)
      go true e k rest = ⊎_elim (λ same. (subst (Has (x ∷ l)) same (has_here x l), ap test (sym same) ∙ e)) (λ j. later (rest j)) (has_cases x (filter test l) y k)
      go false e k rest = later (rest k)

module _ {X Y : Type 0} (f : X → Y) where
  pub has_map : (l : List X) (y : X) → Has l y → Has (map f l) (f y)
  has_map [] y h = absurd (has_none y h)
  has_map (x ∷ l) y h =
      ⊎_elim (λ e. subst (λ z. Has (map f (x ∷ l)) (f z)) e (has_here (f x) (map f l))) (λ k. has_there (f x) (map f l) (f y) (has_map l y k)) (has_cases x l y h)

  pub has_of_map : (l : List X) (z : Y) → Has (map f l) z → (x : X) × Has l x × (f x ≡ z)
  has_of_map [] z h = absurd (has_none z h)
  has_of_map (x ∷ l) z h =
      ⊎_elim (λ e. (x, has_here x l, e)) (λ k. let r = has_of_map l z k in (r.0, has_there x l r.0 r.1, r.2)) (has_cases (f x) (map f l) z h)

-- the rows of a key among rows of which none, or every one, has it
pub of_key_none : (k : ℕ) (rows : List Row) → AllByRecursion (λ row. row.key ≡ k → ⊥) rows → of_key k rows ≡ []
of_key_none k [] none = refl
of_key_none k (row ∷ rows) none = rw (ne_eqb row.key k none.0) (of_key_none k rows none.1)

pub of_key_all : (k : ℕ) (rows : List Row) → AllByRecursion (λ row. row.key ≡ k) rows → of_key k rows ≡ rows
of_key_all k [] all = refl
of_key_all k (row ∷ rows) all = rw (eq-eqb row.key k all.0) (ap (λ l. row ∷ l) (of_key_all k rows all.1))

-- what holds of placed rows holds of those on one processor
pub rows_on_all : (P : Row → Type 0) (q : ℕ) (l : List Placed) → AllByRecursion (λ y. P y.row) l → AllByRecursion P (rows_on q l)
rows_on_all P q [] all = tt
rows_on_all P q (y ∷ l) all = go (eqb y.processor q) (rows_on_all P q l all.1)
  where
    go : (b : Bool) → AllByRecursion P (rows_on q l) → AllByRecursion P (cond b (y.row ∷ rows_on q l) (rows_on q l))
    go true rest = (all.0, rest)
    go false rest = rest

-- of some placed rows on different processors, each processor gets none or one
pub rows_on_cases : (q : ℕ) (l : List Placed) → Distinct (processors l)
    → (rows_on q l ≡ []) ⊎ ((y : Placed) × Has l y × (y.processor ≡ q) × (rows_on q l ≡ y.row ∷ []))
rows_on_cases q [] apart = inl refl
rows_on_cases q (x ∷ l) apart = go (eqb x.processor q) refl (rows_on_cases q l apart.1)
  where
    absent : (k : List Placed) → (Has (processors k) q → ⊥) → rows_on q k ≡ []
    absent [] none = refl
    absent (z ∷ k) none =
        rw (ne_eqb z.processor q (λ e. none (subst (Has (processors (z ∷ k))) e (has_here z.processor (processors k)))))
        (absent k (λ h. none (has_there z.processor (processors k) q h)))

    later : (rows_on q l ≡ []) ⊎ ((y : Placed) × Has l y × (y.processor ≡ q) × (rows_on q l ≡ y.row ∷ []))
        → (rows_on q l ≡ []) ⊎ ((y : Placed) × Has (x ∷ l) y × (y.processor ≡ q) × (rows_on q l ≡ y.row ∷ []))
    later (inl e) = inl e
    later (inr h) = inr (h.0, has_there x l h.0 h.1, h.2, h.3)

    go : (b : Bool) → eqb x.processor q ≡ b
        → (rows_on q l ≡ []) ⊎ ((y : Placed) × Has l y × (y.processor ≡ q) × (rows_on q l ≡ y.row ∷ []))
        → (cond b (x.row ∷ rows_on q l) (rows_on q l) ≡ []) ⊎ ((y : Placed) × Has (x ∷ l) y × (y.processor ≡ q) × (cond b (x.row ∷ rows_on q l) (rows_on q l) ≡ y.row ∷ []))
    go true e rest =
        let same = eqb-true x.processor q e in
        inr (x, has_here x l, same, ap (λ r. x.row ∷ r) (absent l (λ h. apart.0 (subst (Has (processors l)) (sym same) h))))
    go false e rest = later rest
