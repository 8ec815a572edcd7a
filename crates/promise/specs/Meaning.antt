-- What a sizing judge and a placement rule mean, and the laws that they keep. Assumes nothing.
use Rattle.std.specs.Prelude.{◌≡◌, ℕ, ◌<◌, ◌≤◌, Bool, true, false, List, [], ◌∷◌, ◌++◌, length, ℤ}
use Rattle.model.specs.declared.timing.Timing.{Timing}
use Rattle.model.specs.Scale.{scale}
use Rattle.model.specs.Share.{densities}
use Rattle.model.specs.Demand.{demand}
use Rattle.model.specs.Within.{Within}

-- the lists that get a yes, the tail that is offered for a list, a period and a cap, the rank of a processor by its number, spare share
-- and row count, and which of two ranks comes first
pub record Meaning (R : Type 0) : Type 0 where
  pub accepts : List Timing → Bool
  pub allows : List Timing → ℕ → ℕ → ℕ
  pub rank : ℕ → ℤ → ℕ → R
  pub before : R → R → Bool

pub record Lawful {R : Type 0} (m : Meaning R) : Type 0 where
  -- a yes holds for every alignment of the releases
  pub sound : (l : List Timing) → m.accepts l ≡ true → (t : ℕ) → demand l t ≤ t
  -- densities that sum to at most one get a yes
  pub dense : (l : List Timing) → length l ≤ 32 → densities scale l ≤ scale → m.accepts l ≡ true
  -- a yes stays a yes when timings are taken away or reordered
  pub fewer : (k l : List Timing) → Within k l → m.accepts l ≡ true → m.accepts k ≡ true
  -- a list of more than 32 gets no
  pub few : (l : List Timing) → m.accepts l ≡ true → length l ≤ 32
  -- a tail is offered up to the cap and the period, for a lawful period, beside at most 31 timings; and what is offered is accepted
  pub capped : (l : List Timing) (t c : ℕ) → m.allows l t c ≤ c
  pub periodic : (l : List Timing) (t c : ℕ) → m.allows l t c ≤ t
  pub limited : (l : List Timing) (t c : ℕ) → 0 < m.allows l t c → t ≤ 100000
  pub roomy : (l : List Timing) (t c : ℕ) → 0 < m.allows l t c → length l ≤ 31
  pub taken : (l : List Timing) (x : Timing) (c : ℕ) → x.budget ≡ m.allows l x.period c → x.deadline ≡ m.allows l x.period c → m.accepts (l ++ (x ∷ [])) ≡ true
  -- the order of ranks: transitive, none before itself, of two different ranks one comes first
  pub chain : (a b c : R) → m.before a b ≡ true → m.before b c ≡ true → m.before a c ≡ true
  pub apart : (a : R) → m.before a a ≡ false
  pub total : (a b : R) → m.before a b ≡ false → m.before b a ≡ false → a ≡ b
