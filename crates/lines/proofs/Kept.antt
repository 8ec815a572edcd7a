-- Keeping the first bytes of a line. Assumes nothing.
use Rattle.std.proofs.Common.{ℕ, ◌<◌, ◌≤◌, length, take, refl, ⊎_elim, arith, lit<}
use Rattle.std.proofs.lemmas.List.{take_all, length-take-le}
use Rattle.std.proofs.lemmas.Bool.{cases_lt, lt-ltb}
use Rattle.lines.specs.Held.{EnoughKept, CutIsEnough}

-- a line of at most 80 bytes is kept whole; of any other it shows that it is too long
pub enough_kept : (k : ℕ) → 80 < k → EnoughKept k
enough_kept k more l =
    ⊎_elim
    (λ (short : length l < k). rw (take_all k l (omega arith)) (refl, refl, refl))
    (λ (long : k ≤ length l).
    rw (lt-ltb 80 (length (take k l)) (omega (arith, length-take-le k l long)), lt-ltb 80 (length l) (omega arith)) (refl, refl, refl))
    (cases_lt (length l) k)

pub cut_is_enough : CutIsEnough
cut_is_enough = enough_kept 81 (lit< tt)
