-- Which reservation is to be gathered on a processor, by the rules. Assumes nothing.
use Rattle.std.specs.Prelude.{◌≡◌, true, false, List, [], ◌∷◌, ◌++◌, filter}
use Rattle.model.specs.Row.{is_head, is_tail}
use Rattle.std.specs.List.{AllByRecursion}
use Rattle.model.specs.declared.row.Row.{Row}
use Rattle.processor.specs.Gathering.{heavier}

-- the tails among a processor's rows
abbrev pub tails : List Row → List Row
tails = filter (λ row. is_tail row.kind)

-- the heads among them
abbrev pub heads : List Row → List Row
heads = filter (λ row. is_head row.kind)

-- a head is the heaviest: no other has a larger share, nor an equal one and a lower key; of equal ones it is the first
pub record Heaviest (heads : List Row) (row : Row) : Type 0 where
  pub before : List Row
  pub after : List Row
  pub stands : heads ≡ before ++ (row ∷ after)
  pub strictly : AllByRecursion (λ y. heavier row y ≡ true) before
  pub weakly : AllByRecursion (λ y. heavier y row ≡ false) after

-- a row of the reservation that is to be gathered on a processor: the tail there (the first, if a plan had several), else the heaviest head
pub data Candidate (rows : List Row) (row : Row) : Type 0 where
  by_tail : (rest : List Row) → tails rows ≡ row ∷ rest → Candidate rows row
  by_head : tails rows ≡ [] → Heaviest (heads rows) row → Candidate rows row
