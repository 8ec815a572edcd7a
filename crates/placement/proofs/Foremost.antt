-- The choice is first among the candidates, by the laws of the order alone. Assumes nothing.
use Rattle.std.proofs.Common.{◌≡◌, ℕ, Bool, true, false, cond, ◌⊎◌, List, [], ◌∷◌, ◌++◌, ℤ, Option, Some, None, fold, sym, refl, ap, ◌∙◌, subst, inl, inr, append_assoc, append-nil, arith}
use borrow.Author.Tests.{clash}
use Rattle.std.specs.List.{AllByRecursion, reduce}
use Rattle.std.proofs.ByRecursion.{All-append, All-push, All-weaker}
use Rattle.placement.specs.declared.candidate.Candidate.{Candidate}
use Rattle.placement.specs.First.{rank_of, better, best_of, choice, First, Chosen}

-- an element between two lists
pub all_middle : {X : Type 0} (P : X → Type 0) (xs : List X) (x : X) (ys : List X) → AllByRecursion P (xs ++ (x ∷ ys)) → P x
all_middle P [] x ys h = h.0
all_middle P (y ∷ xs) x ys h = all_middle P xs x ys h.1

pub no_middle : {X : Type 0} (xs : List X) (x : X) (ys : List X) → [] ≡ xs ++ (x ∷ ys) → ⊥
no_middle [] x ys e = let z : ◌≡◌ {A = ℕ} 0 1 = cc in omega arith
no_middle (y ∷ xs) x ys e = let z : ◌≡◌ {A = ℕ} 0 1 = cc in omega arith

-- the choice is the library's `reduce`
best_fold : {R : Type 0} (first : R → R → Bool) (ranks : ℕ → ℤ → ℕ → R) (a : Candidate) (l : List Candidate) →
    best_of first ranks a l ≡ fold (better first ranks) a l
best_fold first ranks a [] = refl
best_fold first ranks a (b ∷ l) = best_fold first ranks (better first ranks a b) l

pub choice_reduce : {R : Type 0} (first : R → R → Bool) (ranks : ℕ → ℤ → ℕ → R) (l : List Candidate) →
    choice first ranks l ≡ reduce (better first ranks) l
choice_reduce first ranks [] = refl
choice_reduce first ranks (a ∷ l) = ap Some (best_fold first ranks a l)

module _ {R : Type 0} (first : R → R → Bool) (ranks : ℕ → ℤ → ℕ → R)
    (chain : (a b c : R) → first a b ≡ true → first b c ≡ true → first a c ≡ true)
    (total : (a b : R) → first a b ≡ false → first b a ≡ false → a ≡ b) where
  -- what comes before a rank comes before all that is not before that rank
  ahead : (a b c : R) → first a b ≡ true → (first b c ≡ true) ⊎ (b ≡ c) → first a c ≡ true
  ahead a b c h (inl k) = chain a b c h k
  ahead a b c h (inr e) = let P : R → Type 0 = λ x. first a x ≡ true in subst P e h

  -- neither comes first, or the one that stands earlier does
  behind : (a b : R) (v : Bool) → first a b ≡ v → first b a ≡ false → (first a b ≡ true) ⊎ (a ≡ b)
  behind a b true h k = inl h
  behind a b false h k = inr (total a b h k)

  -- one more candidate at the end
  step : (l : List Candidate) (a b : Candidate) (v : Bool) → first (rank_of ranks b) (rank_of ranks a) ≡ v →
      First first ranks l a → First first ranks (l ++ (b ∷ [])) (cond v b a)
  step l a b true e f = let r = rank_of ranks in let P : Candidate → Type 0 = λ x. first (r b) (r x) ≡ true in
      record {
        before = l;
        after = [];
        stands = refl;
        weakly = tt;
        strictly = rw f.stands (All-append P f.before (a ∷ f.after)
            (All-weaker (λ x. first (r a) (r x) ≡ true) P (λ x h. chain (r b) (r a) (r x) e h) f.before f.strictly)
            (e, All-weaker (λ x. (first (r a) (r x) ≡ true) ⊎ (r a ≡ r x)) P (λ x h. ahead (r b) (r a) (r x) e h) f.after f.weakly));
      }
  step l a b false e f = let r = rank_of ranks in
      record {
        before = f.before;
        after = f.after ++ (b ∷ []);
        stands = ap (λ x. x ++ (b ∷ [])) f.stands ∙ append_assoc f.before (a ∷ f.after) (b ∷ []);
        strictly = f.strictly;
        weakly = All-push (λ x. (first (r a) (r x) ≡ true) ⊎ (r a ≡ r x)) f.after b f.weakly (behind (r a) (r b) _ refl e);
      }

  steps : (pre l : List Candidate) (a : Candidate) → First first ranks pre a → First first ranks (pre ++ l) (best_of first ranks a l)
  steps pre [] a f = rw append-nil f
  steps pre (b ∷ l) a f = rw append_assoc at (steps (pre ++ (b ∷ [])) l (better first ranks a b) (step pre a b _ refl f))

  pub chosen_first : (l : List Candidate) → Chosen first ranks l (choice first ranks l)
  chosen_first [] = refl
  chosen_first (a ∷ l) = steps (a ∷ []) l a (record { before = []; after = []; stands = refl; strictly = tt; weakly = tt })

  module _ (apart : (a : R) → first a a ≡ false) where
    -- no rank comes before one that comes before it or is the same
    never : (a b : R) → (first a b ≡ true) ⊎ (a ≡ b) → first b a ≡ true → ⊥
    never a b h k = clash (sym (apart b) ∙ ahead b a b k h)

    -- a candidate that stands after another, and is first, leaves that other not first
    beaten : (c d y : Candidate) (after mid end : List Candidate) → c ∷ after ≡ y ∷ (mid ++ (d ∷ end)) →
        AllByRecursion (λ x. (first (rank_of ranks c) (rank_of ranks x) ≡ true) ⊎ (rank_of ranks c ≡ rank_of ranks x)) after →
        first (rank_of ranks d) (rank_of ranks y) ≡ true → ⊥
    beaten c d y after mid end e w h =
        let r = rank_of ranks in
        let Later : Candidate → Type 0 = λ x. (first (r c) (r x) ≡ true) ⊎ (r c ≡ r x) in
        let same : y ≡ c = cc in let rest : after ≡ mid ++ (d ∷ end) = cc in
        never (r c) (r d) (all_middle Later mid d end (subst (AllByRecursion Later) rest w)) (subst (λ x. first (r d) (r x) ≡ true) same h)

    agree : (c d : Candidate) (b a b' a' : List Candidate) → b ++ (c ∷ a) ≡ b' ++ (d ∷ a') →
        AllByRecursion (λ x. first (rank_of ranks c) (rank_of ranks x) ≡ true) b →
        AllByRecursion (λ x. (first (rank_of ranks c) (rank_of ranks x) ≡ true) ⊎ (rank_of ranks c ≡ rank_of ranks x)) a →
        AllByRecursion (λ x. first (rank_of ranks d) (rank_of ranks x) ≡ true) b' →
        AllByRecursion (λ x. (first (rank_of ranks d) (rank_of ranks x) ≡ true) ⊎ (rank_of ranks d ≡ rank_of ranks x)) a' → c ≡ d
    agree c d [] a [] a' e s w t v = cc
    agree c d [] a (y ∷ b') a' e s w t v = absurd (beaten c d y a b' a' e w t.0)
    agree c d (y ∷ b) a [] a' e s w t v = absurd (beaten d c y a' b a (sym e) v s.0)
    agree c d (y ∷ b) a (z ∷ b') a' e s w t v =
        let tail : b ++ (c ∷ a) ≡ b' ++ (d ∷ a') = cc in agree c d b a b' a' tail s.1 w t.1 v

    pub first_once : (l : List Candidate) (c d : Candidate) → First first ranks l c → First first ranks l d → c ≡ d
    first_once l c d f k =
        agree c d f.before f.after k.before k.after (sym f.stands ∙ k.stands) f.strictly f.weakly k.strictly k.weakly

    same_chosen : (l : List Candidate) (o : Option Candidate) (d : Candidate) → Chosen first ranks l o → First first ranks l d → o ≡ Some d
    same_chosen l None d none f = absurd (no_middle f.before d f.after (sym none ∙ f.stands))
    same_chosen l (Some c) d this f = ap Some (first_once l c d this f)

    -- whatever is first is what is chosen
    pub chosen_once : (l : List Candidate) (d : Candidate) → First first ranks l d → choice first ranks l ≡ Some d
    chosen_once l d f = same_chosen l (choice first ranks l) d (chosen_first l) f
