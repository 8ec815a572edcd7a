-- A run that begins as it is told, and keeps the earliest-deadline rule from a tick on. Assumes nothing.
use Rattle.std.proofs.Common.{◌≡◌, ℕ, zero, suc, ◌+◌, ◌<◌, ◌≤◌, Bool, true, cond, ◌&&◌, ltb, leb, List, [], ◌∷◌, length, sym, refl, ap, subst, arith}
use Rattle.std.proofs.lemmas.Bool.{lt-ltb, le-ltb, le-leb, leb-true, ltb-true, and_from, and_parts}
use Rattle.runs.specs.Pieces.{Stream, row}
use Rattle.runs.specs.Run.{Slot, idle, serves, gives, served, Waits, EarliestDeadline}
use Rattle.runs.proofs.Choosing.{of_rows, best_rows, Best}

-- whether piece i k waits at t, if the pieces have had so many ticks
abbrev pub waits? : List Stream → ℕ → (ℕ → ℕ → ℕ) → ℕ → ℕ → Bool
waits? work t had i k = ltb k (row work i).turns && (leb ((row work i).start k) t && ltb (had i k) ((row work i).need k))

abbrev pub choice : List Stream → ℕ → (ℕ → ℕ → ℕ) → Slot
choice work t had = of_rows (waits? work t had) (λ i k. (row work i).due k) (λ i. (row work i).turns) (length work)

abbrev pub slot : List Stream → (ℕ → Slot) → ℕ → ℕ → (ℕ → ℕ → ℕ) → Slot
slot work first s t had = cond (ltb t s) (first t) (choice work t had)

-- what the pieces have had by t
abbrev pub had_by : List Stream → (ℕ → Slot) → ℕ → ℕ → ℕ → ℕ → ℕ
had_by work first s zero i k = 0
had_by work first s (suc t) i k = had_by work first s t i k + gives (slot work first s t (had_by work first s t)) i k

abbrev pub built : List Stream → (ℕ → Slot) → ℕ → ℕ → Slot
built work first s t = slot work first s t (had_by work first s t)

pub built_first : (work : List Stream) (first : ℕ → Slot) (s t : ℕ) → t < s → built work first s t ≡ first t
built_first work first s t l = rw (lt-ltb t s l) refl

built_served : (work : List Stream) (first : ℕ → Slot) (s i k t : ℕ) → served (built work first s) i k t ≡ had_by work first s t i k
built_served work first s i k zero = refl
built_served work first s i k (suc t) = ap (λ n. n + gives (built work first s t) i k) (built_served work first s i k t)

real_row : (work : List Stream) (i k : ℕ) → k < (row work i).turns → i < length work
real_row [] i k l = omega arith
real_row (σ ∷ work) zero k l = omega arith
real_row (σ ∷ work) (suc i) k l = omega (arith, real_row work i k l)

module _ (work : List Stream) (first : ℕ → Slot) (s t : ℕ) (l : s ≤ t) where
  chosen : built work first s t ≡ choice work t (had_by work first s t)
  chosen = rw (le-ltb t s l) refl

  abbrev due : ℕ → ℕ → ℕ
  due i k = (row work i).due k

  abbrev test : ℕ → ℕ → Bool
  test = waits? work t (had_by work first s t)

  passes : (i k : ℕ) → Waits work (built work first s) t i k → test i k ≡ true
  passes i k w = and_from (ltb k (row work i).turns) (leb ((row work i).start k) t && ltb (had_by work first s t i k) ((row work i).need k))
      (lt-ltb k (row work i).turns w.real)
      (and_from (leb ((row work i).start k) t) (ltb (had_by work first s t i k) ((row work i).need k))
      (le-leb ((row work i).start k) t w.started)
      (lt-ltb (had_by work first s t i k) ((row work i).need k) (omega (arith, w.lacks, built_served work first s i k t))))

  passed : (i k : ℕ) → test i k ≡ true → Waits work (built work first s) t i k
  passed i k e =
      let p = and_parts (ltb k (row work i).turns) (leb ((row work i).start k) t && ltb (had_by work first s t i k) ((row work i).need k)) e in
      let q = and_parts (leb ((row work i).start k) t) (ltb (had_by work first s t i k) ((row work i).need k)) p.1 in
      record {
        real = ltb-true k (row work i).turns p.0;
        started = leb-true ((row work i).start k) t q.0;
        lacks = omega (arith, ltb-true (had_by work first s t i k) ((row work i).need k) q.1, built_served work first s i k t);
      }

  best : Best test due (λ j m. (j < length work) × (m < (row work j).turns)) (built work first s t)
  best = subst (Best test due (λ j m. (j < length work) × (m < (row work j).turns))) (sym chosen) (best_rows test due (λ i. (row work i).turns) (length work))

  pub built_rule : EarliestDeadline work (built work first s) t
  built_rule = record {
    waiting = λ i k e. passed i k (at i k e).0;
    earliest = λ i k j m e w. (at i k e).1 j m (real_row work j m w.real, w.real) (passes j m w);
    busy = λ e i k w. none e i k (real_row work i k w.real, w.real) (passes i k w);
  }
    where
      at : (i k : ℕ) → built work first s t ≡ serves i k → Best test due (λ j m. (j < length work) × (m < (row work j).turns)) (serves i k)
      at i k e = subst (Best test due (λ j m. (j < length work) × (m < (row work j).turns))) e best

      none : built work first s t ≡ idle → Best test due (λ j m. (j < length work) × (m < (row work j).turns)) idle
      none e = subst (Best test due (λ j m. (j < length work) × (m < (row work j).turns))) e best
