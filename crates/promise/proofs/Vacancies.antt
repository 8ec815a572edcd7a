-- How many processors have no part of a newcomer: each tail takes one of them. Assumes nothing.
use Rattle.std.proofs.Common.{◌≡◌, ℕ, zero, suc, ◌+◌, ◌<◌, ◌≤◌, Bool, true, false, ◌||◌, eqb, List, [], ◌∷◌, ◌++◌, sym, refl, ap, ◌∙◌, arith, eq-eqb, ne_eqb}
use native.Mathlib.Decide.{dec_lt}
use Rattle.board.specs.declared.cut.Cut.{Cut}
use Rattle.board.specs.Place.{used}

-- a number that is used counts nothing
abbrev pub weight : Bool → ℕ
weight true = 0
weight false = 1

-- of m numbers from n on, how many are not used
abbrev pub vacant : (ℕ → Bool) → ℕ → ℕ → ℕ
vacant u n zero = 0
vacant u n (suc m) = weight (u n) + vacant u (n + 1) m

pub vacant_all : (u : ℕ → Bool) (n m : ℕ) → ((p : ℕ) → u p ≡ false) → vacant u n m ≡ m
vacant_all u n zero none = refl
vacant_all u n (suc m) none =
    let here : weight (u n) ≡ 1 = ap weight (none n) in
    omega (arith, vacant_all u (n + 1) m none)

-- where none is left, each is used
pub vacant_none : (u : ℕ → Bool) (n m p : ℕ) → vacant u n m ≡ 0 → n ≤ p → p < n + m → u p ≡ false → ⊥
vacant_none u n zero p z low high free = omega arith
vacant_none u n (suc m) p z low high free =
    elim (dec_lt n p) [
      | no reached ↦
          let e : n ≡ p = omega arith in
          let here : weight (u n) ≡ 1 = ap weight (ap u e ∙ free) in omega arith
      | yes below ↦
          let rest : vacant u (n + 1) m ≡ 0 = omega arith in
          vacant_none u (n + 1) m p rest (omega arith) (omega arith) free
    ]

-- two tests that agree from n on count the same
vacant_same : (u v : ℕ → Bool) (n m : ℕ) → ((q : ℕ) → n ≤ q → v q ≡ u q) → vacant v n m ≡ vacant u n m
vacant_same u v n zero same = refl
vacant_same u v n (suc m) same =
    let here : weight (v n) ≡ weight (u n) = ap weight (same n (omega arith)) in
    omega (arith, vacant_same u v (n + 1) m (λ q h. same q (omega arith)))

-- one more used: p, which was not
pub vacant_less : (u v : ℕ → Bool) (n m p : ℕ) → n ≤ p → p < n + m → u p ≡ false → v p ≡ true →
    ((q : ℕ) → (q ≡ p → ⊥) → v q ≡ u q) → vacant v n m + 1 ≡ vacant u n m
vacant_less u v n zero p low high free now others = absurd (omega arith)
vacant_less u v n (suc m) p low high free now others =
    elim (dec_lt n p) [
      | no reached ↦
          let e : n ≡ p = omega arith in
          let was : weight (u n) ≡ 1 = ap weight (ap u e ∙ free) in
          let is : weight (v n) ≡ 0 = ap weight (ap v e ∙ now) in
          omega (arith, vacant_same u v (n + 1) m (λ q h. others q (λ k. omega arith)))
      | yes below ↦
          let here : weight (v n) ≡ weight (u n) = ap weight (others n (λ e. omega arith)) in
          omega (arith, vacant_less u v (n + 1) m p (omega arith) (omega arith) free now others)
    ]

or_true : (a : Bool) → a || true ≡ true
or_true true = refl
or_true false = refl

or_false : (a : Bool) → a || false ≡ a
or_false true = refl
or_false false = refl

or_assoc : (a b c : Bool) → a || (b || c) ≡ (a || b) || c
or_assoc true b c = refl
or_assoc false b c = refl

-- one more tail
pub used_more : (cuts : List Cut) (cut : Cut) (q : ℕ) → used (cuts ++ (cut ∷ [])) q ≡ used cuts q || eqb cut.processor q
used_more [] cut q = or_false (eqb cut.processor q)
used_more (c ∷ cuts) cut q = ap (λ b. eqb c.processor q || b) (used_more cuts cut q) ∙ or_assoc (eqb c.processor q) (used cuts q) (eqb cut.processor q)

pub cut_takes_one : (m : ℕ) (cuts : List Cut) (cut : Cut) → 1 ≤ cut.processor → cut.processor ≤ m → used cuts cut.processor ≡ false →
    vacant (used (cuts ++ (cut ∷ []))) 1 m + 1 ≡ vacant (used cuts) 1 m
cut_takes_one m cuts cut low high free =
    vacant_less (used cuts) (used (cuts ++ (cut ∷ []))) 1 m cut.processor low (omega arith) free
    (used_more cuts cut cut.processor ∙ ap (λ b. used cuts cut.processor || b) (eq-eqb cut.processor cut.processor refl) ∙ or_true (used cuts cut.processor))
    (λ q apart. used_more cuts cut q ∙ ap (λ b. used cuts q || b) (ne_eqb cut.processor q (λ e. apart (sym e))) ∙ or_false (used cuts q))
