-- The laws of the demand judge's tail allowance, at every scale, number of steps and number of refinements. Assumes nothing.
use Rattle.std.specs.Prelude.{◌≡◌, ℕ, zero, suc, ◌-◌, ◌*◌, ◌<◌, ◌≤◌, true, ◌||◌, ltb, List, [], ◌∷◌, ◌++◌, length, ◌==◌, nat_lt, refl}
use Rattle.std.proofs.Common.{sym, ◌∙◌, inl, inr, zero-le, arith}
use Rattle.std.proofs.Math.Nat.{div-zero}
use Rattle.std.proofs.lemmas.Bool.{cases_Bool, cond_both, cond-true, cond-false, or_parts, eqb-false, ltb-false}
use Rattle.model.specs.declared.timing.Timing.{Timing}
use Rattle.model.specs.Share.{shares}
use Rattle.judges.specs.Demand.{demand_yes}
use Rattle.judges.specs.Allowance.{spare_budget, refined, refinements, demand_allowance}
use Rattle.judges.specs.AllowanceBounds.{refined_le_cap, refined_le_spare, refined_le_period}
use Rattle.judges.specs.AllowanceGrows.{refinements_grow}
use Rattle.judges.specs.AllowanceTaken.{tail_taken}

-- every result comes from a start value that is at most the result
started : (s n : ℕ) (l : List Timing) (t c r : ℕ) → 0 < s → 0 < t
    → (a : ℕ) × (a ≤ refinements s n l t c r) × (refinements s n l t c r ≡ refined s n l t c a)
started s n l t c zero sp tp = (0, zero-le, refl)
started s n l t c (suc r) sp tp = (refinements s n l t c r, refinements_grow s n l t c r sp tp, refl)

pub refinements_le_cap : (s n : ℕ) (l : List Timing) (t c r : ℕ) → refinements s n l t c r ≤ c
refinements_le_cap s n l t c zero = refined_le_cap s n l t c 0
refinements_le_cap s n l t c (suc r) = refined_le_cap s n l t c (refinements s n l t c r)

pub refinements_le_period : (s n : ℕ) (l : List Timing) (t c r : ℕ) → refinements s n l t c r ≤ t
refinements_le_period s n l t c zero = refined_le_period s n l t c 0
refinements_le_period s n l t c (suc r) = refined_le_period s n l t c (refinements s n l t c r)

pub allowance_capped : (s n r : ℕ) (l : List Timing) (t c : ℕ) → demand_allowance s n r l t c ≤ c
allowance_capped s n r l t c =
    cond_both (c == 0 || (t == 0 || (nat_lt 100000 t || nat_lt 31 (length l)))) 0 (refinements s n l t c r) (λ v. v ≤ c)
    (λ e. zero-le)
    (λ e. refinements_le_cap s n l t c r)

pub allowance_periodic : (s n r : ℕ) (l : List Timing) (t c : ℕ) → demand_allowance s n r l t c ≤ t
allowance_periodic s n r l t c =
    cond_both (c == 0 || (t == 0 || (nat_lt 100000 t || nat_lt 31 (length l)))) 0 (refinements s n l t c r) (λ v. v ≤ t)
    (λ e. zero-le)
    (λ e. refinements_le_period s n l t c r)

-- what is asked, where something is offered
pub record Asked (s n r : ℕ) (l : List Timing) (t c : ℕ) : Type 0 where
  pub period : 0 < t
  pub limit : t ≤ 100000
  pub row : length l ≤ 31
  pub offer : demand_allowance s n r l t c ≡ refinements s n l t c r

pub allowance_asked : (s n r : ℕ) (l : List Timing) (t c : ℕ) → 0 < demand_allowance s n r l t c → Asked s n r l t c
allowance_asked s n r l t c h =
    let outside = nat_lt 100000 t || ltb 31 (length l) in
    let refused = c == 0 || (t == 0 || outside) in
    elim (cases_Bool refused) [
      | inl e ↦ absurd (let none = cond-true refused 0 (refinements s n l t c r) e in omega arith)
      | inr e ↦
          let rest = (or_parts (c == 0) (t == 0 || outside) e).1 in
          let last = or_parts (t == 0) outside rest in
          let both = or_parts (nat_lt 100000 t) (nat_lt 31 (length l)) last.1 in
          record {
            period = omega (arith, eqb-false t 0 last.0);
            limit = ltb-false 100000 t both.0;
            row = ltb-false 31 (length l) both.1;
            offer = cond-false refused 0 (refinements s n l t c r) e;
          }
    ]

pub allowance_taken : (s n r : ℕ) (l : List Timing) (x : Timing) (c : ℕ) → 0 < s
    → x.budget ≡ demand_allowance s n r l x.period c → x.deadline ≡ demand_allowance s n r l x.period c
    → demand_yes s n (l ++ (x ∷ [])) ≡ true
allowance_taken s n r l x c sp budget deadline =
    let asked = allowance_asked s n r l x.period c (omega arith) in
    let start = started s n l x.period c r sp asked.period in
    tail_taken s n l x c start.0 sp asked.row (deadline ∙ sym budget)
    (omega (arith, asked.offer, start.1))
    (omega (arith, asked.offer, start.2))

refinements_le_spare : (s n : ℕ) (l : List Timing) (t c r : ℕ) → refinements s n l t c r ≤ spare_budget s l t
refinements_le_spare s n l t c zero = refined_le_spare s n l t c 0
refinements_le_spare s n l t c (suc r) = refined_le_spare s n l t c (refinements s n l t c r)

-- at no scale, as at no period, nothing is offered
pub starts_below : (s n : ℕ) (l : List Timing) (t c r : ℕ) → refinements s n l t c r ≤ refinements s n l t c (suc r)
starts_below zero n l t c r =
    omega (arith, refinements_le_spare 0 n l t c r, div-zero ((0 - shares 0 l) * t))
starts_below (suc s) n l zero c r = omega (arith, refinements_le_period (suc s) n l 0 c r)
starts_below (suc s) n l (suc t) c r = refinements_grow (suc s) n l (suc t) c r (omega arith) (omega arith)
