-- Pieces that need at most d - a within every window [a, d) are in time. Assumes nothing.
use Rattle.std.proofs.Common.{◌≡◌, ℕ, zero, suc, ◌+◌, ◌<◌, ◌≤◌, Bool, true, false, cond, ◌&&◌, leb, ◌⊎◌, List, refl, subst, inl, inr, ⊎_elim, arith}
use Rattle.std.proofs.lemmas.Bool.{le-leb, and_from, cases_lt}
use Rattle.runs.specs.Pieces.{Stream, row}
use Rattle.runs.specs.Run.{Slot, idle, serves, served, Waits, EarliestDeadline}
use Rattle.runs.proofs.Sums.{sum_pieces, sum_pieces_lt}
use Rattle.runs.proofs.Service.{served_on, served_le, served_need}

-- a piece's window lies within [a, d)
abbrev pub inside : ℕ → ℕ → Stream → ℕ → Bool
inside a d σ k = leb a (σ.start k) && leb (σ.due k) d

-- what is needed by the pieces inside
abbrev pub wanted : List Stream → ℕ → ℕ → ℕ → ℕ → ℕ
wanted work a d i k = cond (inside a d (row work i) k) ((row work i).need k) 0

-- what they have had by t
abbrev had : List Stream → (ℕ → Slot) → ℕ → ℕ → ℕ → ℕ → ℕ → ℕ
had work run a d t i k = cond (inside a d (row work i) k) (served run i k t) 0

inside_true : (a d : ℕ) (σ : Stream) (k : ℕ) → a ≤ σ.start k → σ.due k ≤ d → inside a d σ k ≡ true
inside_true a d σ k p q = and_from (leb a (σ.start k)) (leb (σ.due k) d) (le-leb a (σ.start k) p) (le-leb (σ.due k) d q)

cond_le : (b : Bool) (x y : ℕ) → x ≤ y → cond b x 0 ≤ cond b y 0
cond_le true x y h = h
cond_le false x y h = omega arith

cond_lt : (b : Bool) (x y : ℕ) → b ≡ true → x < y → cond b x 0 < cond b y 0
cond_lt b x y e h = rw e h

module _ (work : List Stream) (run : ℕ → Slot) (d : ℕ) (rule : (t : ℕ) → t < d → EarliestDeadline work run t) where
  -- tick t serves a piece that is due by d
  pub record Urgent (t : ℕ) : Type 0 where
    pub i : ℕ
    pub k : ℕ
    pub serving : run t ≡ serves i k
    pub due : (row work i).due k ≤ d

  -- from tick a on, only pieces that start from a on lack service
  abbrev pub Fresh : ℕ → Type 0
  Fresh a = (i k : ℕ) → k < (row work i).turns → (row work i).due k ≤ d → (a ≤ (row work i).start k) ⊎ ((row work i).need k ≤ served run i k a)

  -- ticks that are all urgent go to the pieces inside
  pub filled : (a : ℕ) → ((t : ℕ) → a ≤ t → t < d → Urgent t) → Fresh a → (t : ℕ) → t ≤ d → t ≤ a + sum_pieces work (had work run a d t)
  filled a urgent fresh zero l = omega arith
  filled a urgent fresh (suc t) l = ⊎_elim
      (λ (before : t < a). omega arith)
      (λ (from : a ≤ t).
      let u = urgent t from l in
      let waits = (rule t l).waiting u.i u.k u.serving in
      let starts : a ≤ (row work u.i).start u.k = ⊎_elim (λ s. s)
      (λ done. absurd (over u.i u.k waits.lacks done (served_le run u.i u.k a t from)))
      (fresh u.i u.k waits.real u.due) in
      let one = served_on run u.i u.k t u.serving in
      let grown : had work run a d t u.i u.k < had work run a d (suc t) u.i u.k =
      cond_lt (inside a d (row work u.i) u.k) (served run u.i u.k t) (served run u.i u.k (suc t))
      (inside_true a d (row work u.i) u.k starts u.due) (omega arith) in
      let more = sum_pieces_lt work (had work run a d t) (had work run a d (suc t))
      (λ i k. cond_le (inside a d (row work i) k) (served run i k t) (served run i k (suc t)) (omega arith))
      u.i u.k waits.real grown in
      omega (arith, filled a urgent fresh t (omega arith), more))
      (cases_lt t a)
    where
      over : (i k : ℕ) → served run i k t < (row work i).need k → (row work i).need k ≤ served run i k a → served run i k a ≤ served run i k t → ⊥
      over i k p q r = omega arith

  module _ (i k : ℕ) (real : k < (row work i).turns) (own : (row work i).due k ≤ d)
      (fits : (a : ℕ) → a ≤ d → a + sum_pieces work (wanted work a d) ≤ d) where
    -- what the pieces inside needed is what they had, so each had its need
    squeezed : (a : ℕ) → a ≤ d → ((t : ℕ) → a ≤ t → t < d → Urgent t) → Fresh a → a ≤ (row work i).start k →
        (row work i).need k ≤ served run i k d
    squeezed a l urgent fresh starts = ⊎_elim
        (λ (lacks : served run i k d < (row work i).need k).
        let more = sum_pieces_lt work (had work run a d d) (wanted work a d)
        (λ j m. cond_le (inside a d (row work j) m) (served run j m d) ((row work j).need m) (served_need work run j m d rule))
        i k real
        (cond_lt (inside a d (row work i) k) (served run i k d) ((row work i).need k) (inside_true a d (row work i) k starts own) lacks) in
        absurd (never (omega (arith, fits a l, filled a urgent fresh d (omega arith), more))))
        (λ enough. enough)
        (cases_lt (served run i k d) ((row work i).need k))
      where
        never : 1 ≤ 0 → ⊥
        never p = omega arith

    -- at tick b no piece due by d waits
    settled : (b : ℕ) → suc b ≤ d → ((t : ℕ) → suc b ≤ t → t < d → Urgent t) →
        ((j m : ℕ) → Waits work run b j m → d < (row work j).due m) → (row work i).need k ≤ served run i k d
    settled b l urgent none = ⊎_elim
        (λ (later : b < (row work i).start k). squeezed (suc b) l urgent
        (λ j m r e. ⊎_elim (λ (s : b < (row work j).start m). inl s) (λ (s : (row work j).start m ≤ b). inr (done j m r e s)) (cases_lt b ((row work j).start m)))
        later)
        (λ (before : (row work i).start k ≤ b). omega (arith, done i k real own before, served_le run i k (suc b) d l))
        (cases_lt b ((row work i).start k))
      where
        done : (j m : ℕ) → m < (row work j).turns → (row work j).due m ≤ d → (row work j).start m ≤ b → (row work j).need m ≤ served run j m (suc b)
        done j m r e s = ⊎_elim
            (λ (lacks : served run j m b < (row work j).need m). absurd (ahead (none j m (record { real = r; started = s; lacks = lacks })) e))
            (λ (enough : (row work j).need m ≤ served run j m b). omega (arith, enough))
            (cases_lt (served run j m b) ((row work j).need m))
          where
            ahead : d < (row work j).due m → (row work j).due m ≤ d → ⊥
            ahead p q = omega arith

    -- back from tick a, after which all ticks are urgent
    pub back : (a : ℕ) → a ≤ d → ((t : ℕ) → a ≤ t → t < d → Urgent t) → (row work i).need k ≤ served run i k d
    back zero l urgent = squeezed 0 l urgent (λ j m r e. inl (omega arith)) (omega arith)
    back (suc b) l urgent = step (run b) refl (back b (omega arith))
      where
        extended : Urgent b → (t : ℕ) → b ≤ t → t < d → Urgent t
        extended u t from below = ⊎_elim
            (λ (p : b < t). urgent t p below)
            (λ (p : t ≤ b). let e : b ≡ t = omega arith in subst Urgent e u)
            (cases_lt b t)

        step : (x : Slot) → run b ≡ x → (((t : ℕ) → b ≤ t → t < d → Urgent t) → (row work i).need k ≤ served run i k d) →
            (row work i).need k ≤ served run i k d
        step idle e go = settled b l urgent (λ j m waits. absurd ((rule b l).busy e j m waits))
        step (serves j m) e go = ⊎_elim
            (λ (p : d < (row work j).due m). settled b l urgent (λ j' m' waits. omega (arith, (rule b l).earliest j m j' m' e waits)))
            (λ (p : (row work j).due m ≤ d). go (extended (record { i = j; k = m; serving = e; due = p })))
            (cases_lt d ((row work j).due m))
