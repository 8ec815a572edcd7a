-- The exact demand of a timing bounds what its streams need within a window. Assumes nothing.
use Rattle.std.proofs.Common.{◌≡◌, ℕ, zero, suc, ◌+◌, ◌-◌, ◌/◌, ◌<◌, ◌≤◌, Bool, true, false, cond, ◌&&◌, leb, List, ⊎_elim, mul-le-mul_left, arith}
use native.Mathlib.Nat.{div-eq-sub-div}
use Rattle.std.proofs.lemmas.Bool.{le-leb, lt-ltb, le-ltb, and_parts, leb-true, cases_lt, cond_both}
use Rattle.model.specs.declared.timing.Timing.{Timing}
use Rattle.model.specs.Demand.{exact, demand}
use Rattle.runs.specs.Pieces.{Stream}
use Rattle.runs.specs.Streams.{StreamsOf, none, more}
use Rattle.runs.proofs.Sums.{sum_to, sum_to_le, sum_pieces}
use Rattle.runs.proofs.Urgent.{wanted}

-- from the deadline on, exact demand is at least the budget more than it was a period ago
pub exact_step : (x : Timing) (t : ℕ) → x.deadline ≤ t → x.budget + exact x (t - x.period) ≤ exact x t
exact_step x t h = ⊎_elim
    (λ (p : t - x.period < x.deadline). rw (lt-ltb (t - x.period) x.deadline p, le-ltb t x.deadline h) (omega (arith, mul-le-mul_left x.budget (one ((t - x.deadline) / x.period)))))
    (λ (p : x.deadline ≤ t - x.period). rw (le-ltb (t - x.period) x.deadline p, le-ltb t x.deadline h)
    (let e : t - x.period - x.deadline ≡ t - x.deadline - x.period = omega arith in
    let q : (t - x.deadline) / x.period ≡ (t - x.deadline - x.period) / x.period + 1 =
    div-eq-sub-div {m = x.period} {n = t - x.deadline} (omega arith) (omega arith) in
    rw (e, q) (omega arith)))
    (cases_lt (t - x.period) x.deadline)
  where
    one : (q : ℕ) → 1 ≤ 1 + q
    one q = omega arith

-- a stream, with its starts, due ticks and needs apart
module _ (x : Timing) (d : ℕ) where
  -- turn 0 comes a period before any other
  later : (n : ℕ) (start : ℕ → ℕ) → ((k : ℕ) → suc k < n → start k + x.period ≤ start (suc k)) →
      (k : ℕ) → suc k < n → start 0 + x.period ≤ start (suc k)
  later n start apart zero b = apart 0 b
  later n start apart (suc k) b = omega (arith, apart (suc k) b, later n start apart k (omega arith))

  pub within : (n : ℕ) (start due need : ℕ → ℕ) (a : ℕ) →
      ((k : ℕ) → suc k < n → start k + x.period ≤ start (suc k)) →
      ((k : ℕ) → k < n → due k ≡ start k + x.deadline) →
      ((k : ℕ) → k < n → need k ≤ x.budget) →
      sum_to n (λ k. cond (leb a (start k) && leb (due k) d) (need k) 0) ≤ exact x (d - a)
  within zero start due need a apart dues needs = omega arith
  within (suc n) start due need a apart dues needs =
      let rest : (b : ℕ) → sum_to n (λ k. cond (leb b (start (suc k)) && leb (due (suc k)) d) (need (suc k)) 0) ≤ exact x (d - b) =
      λ b. within n (λ k. start (suc k)) (λ k. due (suc k)) (λ k. need (suc k)) b
      (λ k l. apart (suc k) (omega arith)) (λ k l. dues (suc k) (omega arith)) (λ k l. needs (suc k) (omega arith)) in
      cond_both (leb a (start 0) && leb (due 0) d) (need 0) 0 (λ v. v + sum_to n (λ k. cond (leb a (start (suc k)) && leb (due (suc k)) d) (need (suc k)) 0) ≤ exact x (d - a))
      (λ e.
      let p = and_parts (leb a (start 0)) (leb (due 0) d) e in
      let from = leb-true a (start 0) p.0 in
      let upto = leb-true (due 0) d p.1 in
      let less : sum_to n (λ k. cond (leb a (start (suc k)) && leb (due (suc k)) d) (need (suc k)) 0)
      ≤ sum_to n (λ k. cond (leb (a + x.period) (start (suc k)) && leb (due (suc k)) d) (need (suc k)) 0) =
      sum_to_le n (λ k. cond (leb a (start (suc k)) && leb (due (suc k)) d) (need (suc k)) 0)
      (λ k. cond (leb (a + x.period) (start (suc k)) && leb (due (suc k)) d) (need (suc k)) 0)
      (λ k b. moved a (a + x.period) (start (suc k)) (leb (due (suc k)) d) (need (suc k))
      (omega (arith, later (suc n) start apart k (omega arith)))) in
      let e2 : d - (a + x.period) ≡ d - a - x.period = omega arith in
      omega (arith, less, rw e2 at (rest (a + x.period)), needs 0 (omega arith), exact_step x (d - a) (omega (arith, dues 0 (omega arith)))))
      (λ e. omega (arith, rest a))
    where
      moved : (a b s : ℕ) (u : Bool) (v : ℕ) → b ≤ s → cond (leb a s && u) v 0 ≤ cond (leb b s && u) v 0
      moved a b s u v h = rw (le-leb b s h) (less (leb a s) u)
        where
          less : (p q : Bool) → cond (p && q) v 0 ≤ cond (true && q) v 0
          less true q = omega arith
          less false q = omega arith

-- all together: the demand of the timings bounds what their streams need between a and d
pub wanted_demand : (a d : ℕ) {l : List Timing} {work : List Stream} → StreamsOf l work → sum_pieces work (wanted work a d) ≤ demand l (d - a)
wanted_demand a d none = omega arith
wanted_demand a d (more {x = x} {σ = σ} s rest) =
    omega (arith, within x d σ.turns σ.start σ.due σ.need a s.apart s.due s.need, wanted_demand a d rest)
