-- How long the fields of a reply line can be. Assumes nothing.
use Rattle.std.proofs.Common.{◌≡◌, ℕ, ◌^◌, ◌<◌, ◌≤◌, length, decimal, ap, arith, lit<}
use Rattle.std.proofs.lemmas.Fmt.{decimal_digit, length-decimal-le}

pub one_digit : (v : ℕ) → v < 10 → length (decimal v) ≡ 1
one_digit v small = ap length (decimal_digit v small)

pub key_short : (key : ℕ) → key < 2 ^ 16 → length (decimal key) ≤ 5
key_short key fits = length-decimal-le 5 key (lit< tt) (omega arith) (omega arith)

pub byte_short : (n : ℕ) → n < 2 ^ 8 → length (decimal n) ≤ 3
byte_short n fits = length-decimal-le 3 n (lit< tt) (omega arith) (omega arith)

pub ticks_short : (n : ℕ) → n ≤ 100000 → length (decimal n) ≤ 6
ticks_short n fits = length-decimal-le 6 n (lit< tt) (omega arith) (omega arith)
