-- The rows of a layout. Assumes nothing.
use Rattle.std.proofs.Common.{◌≡◌, ℕ, ◌+◌, ◌≤◌, true, List, [], ◌∷◌, ◌++◌, sym, refl, ap, ◌∙◌}
use Rattle.std.specs.List.{AllByRecursion}
use Rattle.model.specs.declared.timing.Timing.{Timing}
use Rattle.model.specs.Row.{timings}
use Rattle.runs.specs.Plan.{Reservation}
use Rattle.promise.specs.Layout.{Layout, layout, layout_rows, Distinct}
use Rattle.promise.specs.Meaning.{Meaning}
use Rattle.promise.specs.Plan.{Plan, On, rows_at}
use Rattle.promise.specs.Kept.{processors, ComesTo}
use Rattle.promise.proofs.Placing.{tail_processors, GoodTail, GoodLayout}
use Rattle.board.specs.declared.admission.Placed.{Placed}
use Rattle.board.specs.declared.cut.Cut.{Cut}
use Rattle.board.specs.Split.{tails}

-- they all have the reservation's key
tail_keys : (k j : ℕ) (cuts : List Cut) → AllByRecursion (λ y. y.row.key ≡ k) (tails k j cuts)
tail_keys k j [] = tt
tail_keys k j (y ∷ cuts) = (refl, tail_keys k (j + 1) cuts)

pub layout_keys : (k : ℕ) (o : Layout) → AllByRecursion (λ y. y.row.key ≡ k) (layout_rows k o)
layout_keys k (layout p x []) = (refl, tt)
layout_keys k (layout p x (y ∷ cuts)) = (refl, tail_keys k 1 (y ∷ cuts))

-- and stand on its processors
tail_processors_are : (k j : ℕ) (cuts : List Cut) → processors (tails k j cuts) ≡ tail_processors cuts
tail_processors_are k j [] = refl
tail_processors_are k j (y ∷ cuts) = ap (λ l. y.processor ∷ l) (tail_processors_are k (j + 1) cuts)

pub layout_processors : (k p : ℕ) (x : Timing) (cuts : List Cut) → processors (layout_rows k (layout p x cuts)) ≡ p ∷ tail_processors cuts
layout_processors k p x [] = refl
layout_processors k p x (y ∷ cuts) = ap (λ l. p ∷ l) (tail_processors_are k 1 (y ∷ cuts))

module _ {R : Type 0} (m : Meaning R) (plan : Plan) (t : ℕ) where
  -- each row is taken where it stands
  abbrev pub Taken : Placed → Type 0
  Taken y = On plan y.processor × (m.accepts (timings (rows_at plan y.processor) ++ (y.row.timing ∷ [])) ≡ true)

  tails_taken : (k j : ℕ) (cuts : List Cut) → AllByRecursion (GoodTail m plan t) cuts → AllByRecursion Taken (tails k j cuts)
  tails_taken k j [] good = tt
  tails_taken k j (y ∷ cuts) good = ((good.0.on, good.0.yes_with), tails_taken k (j + 1) cuts good.1)

  module _ (c d p : ℕ) (x : Timing) where
    pub layout_taken : (k : ℕ) (cuts : List Cut) → GoodLayout m plan t c d p x cuts → AllByRecursion Taken (layout_rows k (layout p x cuts))
    layout_taken k [] good = ((good.on, good.yes_with), tt)
    layout_taken k (y ∷ cuts) good = ((good.on, good.yes_with), tails_taken k 1 (y ∷ cuts) good.tails)

    pub layout_apart : (k : ℕ) (cuts : List Cut) → GoodLayout m plan t c d p x cuts → Distinct (processors (layout_rows k (layout p x cuts)))
    layout_apart k cuts good = rw (layout_processors k p x cuts) (good.alone, good.apart)

  tails_tight : (x : Reservation) (cuts : List Cut) → x.period ≡ t → AllByRecursion (GoodTail m plan t) cuts → AllByRecursion (λ y. (y.timing.deadline ≡ y.timing.budget) × (y.timing.period ≡ x.period)) cuts
  tails_tight x [] e good = tt
  tails_tight x (y ∷ cuts) e good = ((good.0.tight, good.0.period ∙ sym e), tails_tight x cuts e good.1)

  -- and they come to the reservation
  pub layout_comes : (x : Reservation) (p : ℕ) (h : Timing) (cuts : List Cut) → x.period ≡ t → x.deadline ≤ x.period → GoodLayout m plan t x.budget x.deadline p h cuts → ComesTo x (layout p h cuts)
  layout_comes x p h cuts e le good = (good.budget, good.deadline, good.period ∙ sym e, tails_tight x cuts e good.tails, le)
