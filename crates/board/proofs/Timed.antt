-- A timing is its numbers: what is made of them is the one timing that has them. Assumes nothing.
use Rattle.std.proofs.Common.{◌≡◌, ℕ, ◌≤◌, Some, None, Ok, Err, sym, refl, ap, ◌∙◌, arith, le-ltb, ne_eqb}
use native.Mathlib.Bridge.{le_prop}
use native.Mathlib.Decide.{dec_le}
use Rattle.model.specs.declared.timing.Timing.{Timing}
use Rattle.model.specs.declared.fault.RequestFault.{RequestFault}
use Rattle.model.specs.Limits.{timing_fault, Timed}
use Rattle.board.specs.Timed.{timed_by, timed}

-- each way to see the limits kept gives the same timing
own : (x : Timing) (a : Dec (1 ≤ x.budget)) (b : Dec (x.budget ≤ x.deadline)) (e : Dec (x.deadline ≤ x.period)) (f : Dec (x.period ≤ 100000)) →
    Some x ≡ timed_by x.budget x.deadline x.period a b e f
own x (no n) b e f = absurd (n x.some)
own x (yes a) (no n) e f = absurd (n x.fits)
own x (yes a) (yes b) (no n) f = absurd (n x.constrained)
own x (yes a) (yes b) (yes e) (no n) = absurd (n x.short)
own x (yes a) (yes b) (yes e) (yes f) =
    λ i. Some (record {
      budget = x.budget;
      deadline = x.deadline;
      period = x.period;
      some = le_prop x.some a i;
      fits = le_prop x.fits b i;
      constrained = le_prop x.constrained e i;
      short = le_prop x.short f i;
    })

pub made : (x : Timing) (c d t : ℕ) → x.budget ≡ c → x.deadline ≡ d → x.period ≡ t → Some x ≡ timed c d t
made x c d t p q r =
    own x (dec_le 1 x.budget) (dec_le x.budget x.deadline) (dec_le x.deadline x.period) (dec_le x.period 100000)
    ∙ ap (λ n. timed n x.deadline x.period) p ∙ ap (λ n. timed c n x.period) q ∙ ap (timed c d) r

faultless : (c d t : ℕ) → 1 ≤ c → c ≤ d → d ≤ t → t ≤ 100000 → timing_fault c d t ≡ None
faultless c d t a b e f =
    rw (ne_eqb c 0 (λ (z : c ≡ 0). omega arith), le-ltb d c b, le-ltb t d e, le-ltb 100000 t f) refl

unmade : (c d t : ℕ) (k : RequestFault) → timing_fault c d t ≡ Some k → (a : Dec (1 ≤ c)) (b : Dec (c ≤ d)) (e : Dec (d ≤ t)) (f : Dec (t ≤ 100000)) →
    timed_by c d t a b e f ≡ None
unmade c d t k h (no n) b e f = refl
unmade c d t k h (yes a) (no n) e f = refl
unmade c d t k h (yes a) (yes b) (no n) f = refl
unmade c d t k h (yes a) (yes b) (yes e) (no n) = refl
unmade c d t k h (yes a) (yes b) (yes e) (yes f) =
    let clear = faultless c d t a b e f in let z : ◌≡◌ {A = ℕ} 0 1 = cc in absurd (omega arith)

-- the timing made of some numbers, as it is defined
pub timed_ok : (c d t : ℕ) (x : Timing) → Timed c d t (Ok x) → timed c d t ≡ Some x
timed_ok c d t x h = sym (made x c d t h.1 h.2 h.3)

pub timed_err : (c d t : ℕ) (k : RequestFault) → Timed c d t (Err k) → timed c d t ≡ None
timed_err c d t k h = unmade c d t k h (dec_le 1 c) (dec_le c d) (dec_le d t) (dec_le t 100000)
