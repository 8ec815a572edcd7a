-- Sums over pieces. Assumes nothing.
use Rattle.std.proofs.Common.{◌≡◌, ℕ, zero, suc, ◌+◌, ◌<◌, ◌≤◌, List, [], ◌∷◌, ⊎_elim, arith}
use Rattle.std.proofs.lemmas.Bool.{cases_lt}
use Rattle.runs.specs.Pieces.{Stream, row}

-- over the numbers below n
abbrev pub sum_to : ℕ → (ℕ → ℕ) → ℕ
sum_to zero f = 0
sum_to (suc n) f = f 0 + sum_to n (λ k. f (suc k))

-- over the pieces of a processor's work
abbrev pub sum_pieces : List Stream → (ℕ → ℕ → ℕ) → ℕ
sum_pieces [] f = 0
sum_pieces (σ ∷ work) f = sum_to σ.turns (f 0) + sum_pieces work (λ i. f (suc i))

pub sum_to_le : (n : ℕ) (f g : ℕ → ℕ) → ((k : ℕ) → k < n → f k ≤ g k) → sum_to n f ≤ sum_to n g
sum_to_le zero f g h = omega arith
sum_to_le (suc n) f g h =
    omega (arith, h 0 (omega arith), sum_to_le n (λ k. f (suc k)) (λ k. g (suc k)) (λ k b. h (suc k) (omega arith)))

pub sum_to_lt : (n : ℕ) (f g : ℕ → ℕ) → ((k : ℕ) → k < n → f k ≤ g k) → (k : ℕ) → k < n → f k < g k → sum_to n f < sum_to n g
sum_to_lt zero f g h k b more = omega arith
sum_to_lt (suc n) f g h zero b more =
    omega (arith, more, sum_to_le n (λ k. f (suc k)) (λ k. g (suc k)) (λ k b. h (suc k) (omega arith)))
sum_to_lt (suc n) f g h (suc k) b more =
    omega (arith, h 0 (omega arith), sum_to_lt n (λ k. f (suc k)) (λ k. g (suc k)) (λ k b. h (suc k) (omega arith)) k (omega arith) more)

pub sum_pieces_le : (work : List Stream) (f g : ℕ → ℕ → ℕ) → ((i k : ℕ) → f i k ≤ g i k) → sum_pieces work f ≤ sum_pieces work g
sum_pieces_le [] f g h = omega arith
sum_pieces_le (σ ∷ work) f g h =
    omega (arith, sum_to_le σ.turns (f 0) (g 0) (λ k b. h 0 k), sum_pieces_le work (λ i. f (suc i)) (λ i. g (suc i)) (λ i. h (suc i)))

-- where one piece has more, and none has less, all have more
pub sum_pieces_lt : (work : List Stream) (f g : ℕ → ℕ → ℕ) → ((i k : ℕ) → f i k ≤ g i k) →
    (i k : ℕ) → k < (row work i).turns → f i k < g i k → sum_pieces work f < sum_pieces work g
sum_pieces_lt [] f g h i k b more = omega arith
sum_pieces_lt (σ ∷ work) f g h zero k b more =
    omega (arith, sum_to_lt σ.turns (f 0) (g 0) (λ k b. h 0 k) k b more, sum_pieces_le work (λ i. f (suc i)) (λ i. g (suc i)) (λ i. h (suc i)))
sum_pieces_lt (σ ∷ work) f g h (suc i) k b more =
    omega (arith, sum_to_le σ.turns (f 0) (g 0) (λ k b. h 0 k), sum_pieces_lt work (λ i. f (suc i)) (λ i. g (suc i)) (λ i. h (suc i)) i k b more)

-- where only one has more, and only one more, all have at most one more
sum_to_but : (n : ℕ) (f g : ℕ → ℕ) (m : ℕ) → ((k : ℕ) → (k ≡ m → ⊥) → g k ≤ f k) → g m ≤ f m + 1 → sum_to n g ≤ sum_to n f + 1
sum_to_but zero f g m others one = omega arith
sum_to_but (suc n) f g zero others one =
    omega (arith, one, sum_to_le n (λ k. g (suc k)) (λ k. f (suc k)) (λ k b. others (suc k) (λ e. omega arith)))
sum_to_but (suc n) f g (suc m) others one =
    omega (arith, others 0 (λ e. omega arith), sum_to_but n (λ k. f (suc k)) (λ k. g (suc k)) m (λ k ne. others (suc k) (λ e. ne (omega arith))) one)

pub sum_pieces_but : (work : List Stream) (f g : ℕ → ℕ → ℕ) (j m : ℕ) →
    ((i k : ℕ) → ((i ≡ j) × (k ≡ m) → ⊥) → g i k ≤ f i k) → g j m ≤ f j m + 1 → sum_pieces work g ≤ sum_pieces work f + 1
sum_pieces_but [] f g j m others one = omega arith
sum_pieces_but (σ ∷ work) f g zero m others one =
    omega (
      arith,
      sum_to_but σ.turns (f 0) (g 0) m (λ k ne. others 0 k (λ e. ne e.1)) one,
      sum_pieces_le work (λ i. g (suc i)) (λ i. f (suc i)) (λ i k. others (suc i) k (λ e. omega (arith, e.0))),
    )
sum_pieces_but (σ ∷ work) f g (suc j) m others one =
    omega (
      arith,
      sum_to_le σ.turns (g 0) (f 0) (λ k b. others 0 k (λ e. omega (arith, e.0))),
      sum_pieces_but work (λ i. f (suc i)) (λ i. g (suc i)) j m (λ i k ne. others (suc i) k (λ e. ne (omega (arith, e.0), e.1))) one,
    )

-- where all have more, one has more
sum_to_find : (n : ℕ) (f g : ℕ → ℕ) → sum_to n f < sum_to n g → (k : ℕ) × (k < n) × (f k < g k)
sum_to_find zero f g h = absurd (omega arith)
sum_to_find (suc n) f g h = ⊎_elim
    (λ (l : f 0 < g 0). (0, omega arith, l))
    (λ (l : g 0 ≤ f 0). let r = sum_to_find n (λ k. f (suc k)) (λ k. g (suc k)) (omega arith) in (suc r.0, omega (arith, r.1), r.2))
    (cases_lt (f 0) (g 0))

pub sum_pieces_find : (work : List Stream) (f g : ℕ → ℕ → ℕ) → sum_pieces work f < sum_pieces work g →
    (i : ℕ) × (k : ℕ) × (k < (row work i).turns) × (f i k < g i k)
sum_pieces_find [] f g h = absurd (omega arith)
sum_pieces_find (σ ∷ work) f g h = ⊎_elim
    (λ (l : sum_to σ.turns (f 0) < sum_to σ.turns (g 0)). let r = sum_to_find σ.turns (f 0) (g 0) l in (0, r.0, r.1, r.2))
    (λ (l : sum_to σ.turns (g 0) ≤ sum_to σ.turns (f 0)).
    let r = sum_pieces_find work (λ i. f (suc i)) (λ i. g (suc i)) (omega arith) in (suc r.0, r.1, r.2, r.3))
    (cases_lt (sum_to σ.turns (f 0)) (sum_to σ.turns (g 0)))
