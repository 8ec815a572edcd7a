use Rattle.std.proofs.Common.{ℕ, suc, ◌+◌, ◌<◌, ◌≤◌, List, [], ◌∷◌, length, get_or, arith}
use Rattle.runs.specs.Board.{Apart}
use Rattle.runs.proofs.words.releases_free.Goals as goal

apart_from : (period : ℕ) (ticks : List ℕ) → ((k : ℕ) → suc k < length ticks → get_or ticks k 0 + period ≤ get_or ticks (suc k) 0) → Apart period ticks
apart_from period [] h = tt
apart_from period (a ∷ []) h = tt
apart_from period (a ∷ (b ∷ l)) h = (h 0 (omega arith), apart_from period (b ∷ l) (λ k lt. h (suc k) (omega arith)))

pub returns : goal.returns
returns c = λ x ticks h. (apart_from x.period ticks h, tt)
