-- What the earliest-deadline rule says of service. Assumes nothing.
use Rattle.std.proofs.Common.{◌≡◌, ℕ, zero, suc, ◌<◌, ◌≤◌, cond, ◌&&◌, eqb, ◌⊎◌, List, refl, ap, ◌∙◌, inl, inr, ⊎_elim, arith}
use Rattle.std.proofs.lemmas.Bool.{eq-eqb, eqb-true, cases_Bool, and_parts, cases_lt}
use Rattle.runs.specs.Pieces.{Stream, row}
use Rattle.runs.specs.Run.{Slot, idle, serves, gives, served, EarliestDeadline}

pub gives_itself : (i k : ℕ) → gives (serves i k) i k ≡ 1
gives_itself i k = ap (λ b. cond (b && eqb k k) 1 0) (eq-eqb i i refl) ∙ ap (λ b. cond b 1 0) (eq-eqb k k refl)

-- a slot gives a piece nothing, or is its own
pub gives_cases : (x : Slot) (i k : ℕ) → (gives x i k ≡ 0) ⊎ ((gives x i k ≡ 1) × (x ≡ serves i k))
gives_cases idle i k = inl refl
gives_cases (serves j m) i k = ⊎_elim
    (λ e. let p = and_parts (eqb j i) (eqb m k) e in
    inr (ap (λ b. cond b 1 0) e, cc (eqb-true j i p.0, eqb-true m k p.1)))
    (λ e. inl (ap (λ b. cond b 1 0) e))
    (cases_Bool (eqb j i && eqb m k))

pub served_on : (run : ℕ → Slot) (i k t : ℕ) → run t ≡ serves i k → served run i k (suc t) ≡ suc (served run i k t)
served_on run i k t e = omega (arith, ap (λ x. gives x i k) e, gives_itself i k)

pub served_le : (run : ℕ → Slot) (i k a t : ℕ) → a ≤ t → served run i k a ≤ served run i k t
served_le run i k zero t h = omega arith
served_le run i k (suc a) zero h = omega arith
served_le run i k (suc a) (suc t) h = ⊎_elim
    (λ (l : suc a < suc t). omega (arith, served_le run i k (suc a) t (omega arith)))
    (λ (l : suc t ≤ suc a). let e : a ≡ t = omega arith in rw e (omega arith))
    (cases_lt (suc a) (suc t))

-- no piece is served more than it needs
pub served_need : (work : List Stream) (run : ℕ → Slot) (i k t : ℕ) → ((u : ℕ) → u < t → EarliestDeadline work run u) →
    served run i k t ≤ (row work i).need k
served_need work run i k zero rule = omega arith
served_need work run i k (suc t) rule = ⊎_elim
    (λ e. omega (arith, e, served_need work run i k t (λ u b. rule u (omega arith))))
    (λ e. omega (arith, e.0, ((rule t (omega arith)).waiting i k e.1).lacks))
    (gives_cases (run t) i k)
