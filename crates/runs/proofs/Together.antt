-- All timings started together, as often as they may: what is demanded within t ticks is then needed. Assumes nothing.
use Rattle.std.proofs.Common.{◌≡◌, ℕ, zero, suc, ◌+◌, ◌-◌, ◌*◌, ◌/◌, ◌<◌, ◌≤◌, cond, ltb, List, [], ◌∷◌, map, sym, refl, ap, ◌∙◌, ⊎_elim, mul-le-mul_right, div-mul-le_self, arith}
use Rattle.std.proofs.lemmas.Bool.{lt-ltb, le-ltb, cases_lt}
use Rattle.model.specs.declared.timing.Timing.{Timing}
use Rattle.model.specs.Demand.{exact, demand}
use Rattle.runs.specs.Pieces.{Stream, row}
use Rattle.runs.specs.Run.{Slot, idle, serves, gives, served}
use Rattle.runs.specs.Streams.{StreamOf, StreamsOf, none, more}
use Rattle.runs.specs.Needed.{Late, DemandNeeded}
use Rattle.runs.proofs.Sums.{sum_to, sum_pieces, sum_pieces_le, sum_pieces_but, sum_pieces_find}
use Rattle.runs.proofs.Service.{gives_cases, served_on, served_le}

sum_to_same : (n v : ℕ) → sum_to n (λ k. v) ≡ v * n
sum_to_same zero v = omega arith
sum_to_same (suc n) v = omega (arith, sum_to_same n v)

-- in t ticks a run gives at most t
given : (work : List Stream) (run : ℕ → Slot) (t : ℕ) → sum_pieces work (λ i k. served run i k t) ≤ t
given work run zero = nothing work
  where
    nothing : (w : List Stream) → sum_pieces w (λ i k. 0) ≤ 0
    nothing [] = omega arith
    nothing (σ ∷ w) = omega (arith, sum_to_same σ.turns 0, nothing w)
given work run (suc t) = omega (arith, given work run t, by (run t) refl)
  where
    by : (x : Slot) → run t ≡ x → sum_pieces work (λ i k. served run i k (suc t)) ≤ sum_pieces work (λ i k. served run i k t) + 1
    by idle e = omega (
      arith,
      sum_pieces_le work (λ i k. served run i k (suc t)) (λ i k. served run i k t)
          (λ i k. omega (arith, ap (λ x. gives x i k) e)),
    )
    by (serves j m) e = sum_pieces_but work (λ i k. served run i k t) (λ i k. served run i k (suc t)) j m
        (λ i k other. ⊎_elim
        (λ none. omega (arith, none))
        (λ one. absurd (other (mine i k (sym e ∙ one.1))))
        (gives_cases (run t) i k))
        (omega (arith, served_on run j m t e))
      where
        mine : (i k : ℕ) → serves j m ≡ serves i k → (i ≡ j) × (k ≡ m)
        mine i k e = (cc, cc)

-- the pieces of a timing that are due within t ticks, if it starts at 0 and then every period
abbrev together : ℕ → Timing → Stream
together t x = record {
  turns = cond (ltb t x.deadline) 0 (1 + (t - x.deadline) / x.period);
  start = λ k. k * x.period;
  due = λ k. k * x.period + x.deadline;
  need = λ k. x.budget;
}

together_stream : (t : ℕ) (x : Timing) → StreamOf x (together t x)
together_stream t x = record { apart = λ k b. omega arith; due = λ k b. refl; need = λ k b. omega arith }

together_streams : (t : ℕ) (l : List Timing) → StreamsOf l (map (together t) l)
together_streams t [] = none
together_streams t (x ∷ l) = more (together_stream t x) (together_streams t l)

together_exact : (t : ℕ) (x : Timing) → sum_to (together t x).turns (λ k. x.budget) ≡ exact x t
together_exact t x = sum_to_same (together t x).turns x.budget ∙ ⊎_elim
    (λ (l : t < x.deadline). rw (lt-ltb t x.deadline l) (omega arith))
    (λ (l : x.deadline ≤ t). rw (le-ltb t x.deadline l) refl)
    (cases_lt t x.deadline)

together_demand : (t : ℕ) (l : List Timing) → sum_pieces (map (together t) l) (λ i k. (row (map (together t) l) i).need k) ≡ demand l t
together_demand t [] = refl
together_demand t (x ∷ l) = omega (arith, together_exact t x, together_demand t l)

due_within : (t : ℕ) (x : Timing) (k : ℕ) → k < (together t x).turns → (together t x).due k ≤ t
due_within t x k b = ⊎_elim
    (λ (l : t < x.deadline). absurd (no_turn (rw (lt-ltb t x.deadline l) at b)))
    (λ (l : x.deadline ≤ t).
    let last : k < 1 + (t - x.deadline) / x.period = rw (le-ltb t x.deadline l) at b in
    omega (arith, mul-le-mul_right {m = k} {n = (t - x.deadline) / x.period} x.period (omega arith), div-mul-le_self (t - x.deadline) x.period))
    (cases_lt t x.deadline)
  where
    no_turn : k < 0 → ⊥
    no_turn b = omega arith

dues_within : (t : ℕ) (l : List Timing) (i k : ℕ) → k < (row (map (together t) l) i).turns → (row (map (together t) l) i).due k ≤ t
dues_within t [] i k b = omega arith
dues_within t (x ∷ l) zero k b = due_within t x k b
dues_within t (x ∷ l) (suc i) k b = dues_within t l i k b

pub demand_needed : DemandNeeded
demand_needed l t over = (work, together_streams t l, late)
  where
    work : List Stream
    work = map (together t) l

    late : (run : ℕ → Slot) → Late (map (together t) l) run
    late run =
        let r = sum_pieces_find (map (together t) l) (λ i k. served run i k t) (λ i k. (row (map (together t) l) i).need k)
        (omega (arith, given (map (together t) l) run t, together_demand t l)) in
        record {
          i = r.0;
          k = r.1;
          real = r.2;
          lacks = omega (arith, r.3, served_le run r.0 r.1 ((row (map (together t) l) r.0).due r.1) t (dues_within t l r.0 r.1 r.2));
        }
