-- The two sides of a board, and their order. Assumes nothing.
use Rattle.std.specs.Prelude.{ℕ, ◌%◌, Bool, true, false, cond, ◌==◌, nat_lt}
use Rattle.guest.specs.declared.side.Side.{Side}

-- where a processor stands
abbrev pub side : ℕ → Side
side p = cond (p % 2 == 1) (Side.Odd p) (Side.Even p)

-- odd before even, and on each side the lower number
abbrev pub sooner : Side → Side → Bool
sooner (Side.Odd a) (Side.Odd b) = nat_lt a b
sooner (Side.Odd a) (Side.Even b) = true
sooner (Side.Even a) (Side.Odd b) = false
sooner (Side.Even a) (Side.Even b) = nat_lt a b
