-- Lists that hold less than others. Assumes nothing.
use Rattle.std.specs.Prelude.{List, [], ◌∷◌}

-- The first list is got from the second by leaving elements out and changing their order: the empty list from itself, with the
-- same element in front of both, with one in front of the second alone, with two exchanged, and in two goes.
pub data Within {A : Type 0} : List A → List A → Type 0 where
  none : Within [] []
  keep : {x : A} {m l : List A} → Within m l → Within (x ∷ m) (x ∷ l)
  skip : {x : A} {m l : List A} → Within m l → Within m (x ∷ l)
  swap : {x y : A} {l : List A} → Within (x ∷ (y ∷ l)) (y ∷ (x ∷ l))
  both : {k m l : List A} → Within k m → Within m l → Within k l
