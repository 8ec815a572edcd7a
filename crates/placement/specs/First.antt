-- Which of several candidates comes first: the first rank wins, equal ranks go to the earlier. Assumes nothing.
use Rattle.std.specs.Prelude.{◌≡◌, ℕ, Bool, true, cond, ◌⊎◌, List, [], ◌∷◌, ◌++◌, ℤ, Some, None, Option}
use Rattle.std.specs.List.{AllByRecursion}
use Rattle.placement.specs.declared.candidate.Candidate.{Candidate}

-- a candidate's rank
abbrev pub rank_of : {R : Type 0} → (ℕ → ℤ → ℕ → R) → Candidate → R
rank_of ranks c = ranks c.processor c.spare c.rows

-- of two candidates the one whose rank comes first, the earlier where neither does
abbrev pub better : {R : Type 0} → (R → R → Bool) → (ℕ → ℤ → ℕ → R) → Candidate → Candidate → Candidate
better first ranks a b = cond (first (rank_of ranks b) (rank_of ranks a)) b a

-- the best of a candidate and those that stand after it
abbrev pub best_of : {R : Type 0} → (R → R → Bool) → (ℕ → ℤ → ℕ → R) → Candidate → List Candidate → Candidate
best_of first ranks a [] = a
best_of first ranks a (b ∷ l) = best_of first ranks (better first ranks a b) l

-- the candidate that comes first
abbrev pub choice : {R : Type 0} → (R → R → Bool) → (ℕ → ℤ → ℕ → R) → List Candidate → Option Candidate
choice first ranks [] = None
choice first ranks (a ∷ l) = Some (best_of first ranks a l)

-- a candidate is first in a list: it stands there, every one that stands before it has a later rank,
-- and every one that stands after it a later rank or the same
pub record First {R : Type 0} (first : R → R → Bool) (ranks : ℕ → ℤ → ℕ → R) (l : List Candidate) (c : Candidate) : Type 0 where
  pub before : List Candidate
  pub after : List Candidate
  pub stands : l ≡ before ++ (c ∷ after)
  pub strictly : AllByRecursion (λ x. first (rank_of ranks c) (rank_of ranks x) ≡ true) before
  pub weakly : AllByRecursion (λ x. (first (rank_of ranks c) (rank_of ranks x) ≡ true) ⊎ (rank_of ranks c ≡ rank_of ranks x)) after

-- what is chosen is first; nothing is chosen only where there is no candidate
abbrev pub Chosen : {R : Type 0} → (R → R → Bool) → (ℕ → ℤ → ℕ → R) → List Candidate → Option Candidate → Type 0
Chosen first ranks l None = l ≡ []
Chosen first ranks l (Some c) = First first ranks l c
