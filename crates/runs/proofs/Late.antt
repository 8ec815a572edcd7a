-- Late is the contrary of in time. Assumes nothing.
use Rattle.std.proofs.Common.{◌≡◌, ℕ, zero, suc, List, [], ◌∷◌, Some, subst, arith}
use Rattle.std.specs.List.{AllByRecursion, slice_get}
use Rattle.model.specs.declared.row.Row.{Row}
use Rattle.runs.specs.Plan.{Reservation}
use Rattle.runs.specs.Board.{NeverLate}
use Rattle.runs.specs.Needed.{LateInstance}

all_nth : {X : Type 0} (P : X → Type 0) (l : List X) (n : ℕ) (x : X) → slice_get l n ≡ Some x → AllByRecursion P l → P x
all_nth P [] n x e all = let z : ◌≡◌ {A = ℕ} 0 1 = cc in absurd (omega arith)
all_nth P (y ∷ l) zero x e all = let same : y ≡ x = cc in subst P same all.0
all_nth P (y ∷ l) (suc n) x e all = all_nth P l n x e all.1

pub late_refutes : (accepted : List Reservation) (plan : List (List Row)) → LateInstance accepted plan → NeverLate accepted plan → ⊥
late_refutes accepted plan late never =
    let here = all_nth _ accepted late.n late.x late.among (never late.pattern late.legal late.run late.rule) in
    omega (arith, late.lacks, (here late.k late.released).service)
