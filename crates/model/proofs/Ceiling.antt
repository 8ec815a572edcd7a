-- A quotient rounded up is the least number whose product reaches the dividend. Assumes nothing.
use Rattle.std.proofs.Common.{ℕ, ◌+◌, ◌-◌, ◌*◌, ◌<◌, ◌≤◌, div-lt_iff_lt-mul, add-mul, div-mul-le_self, arith}
use native.Mathlib.Nat.{lt-div-mul-add}
use Rattle.model.specs.Share.{ceiling}

pub ceiling_reaches : (a b : ℕ) → 0 < b → a ≤ ceiling a b * b
ceiling_reaches a b h = omega (arith, lt-div-mul-add {a = a + (b - 1)} {b = b} h)

pub ceiling_near : (a b : ℕ) → 0 < b → ceiling a b * b ≤ a + (b - 1)
ceiling_near a b h = div-mul-le_self (a + (b - 1)) b

pub ceiling_least : (a b k : ℕ) → 0 < b → a ≤ k * b → ceiling a b ≤ k
ceiling_least a b k h reach =
    let below : a + (b - 1) < (k + 1) * b = omega (arith, add-mul k 1 b) in
    let lt : ceiling a b < k + 1 = (div-lt_iff_lt-mul {k = b} {x = a + (b - 1)} {y = k + 1} h).1 below in
    omega arith
