-- What odd first comes to on a board. Assumes nothing.
use Rattle.std.specs.Prelude.{◌≡◌, ℕ, ◌%◌, List, [], ◌∷◌, Ok}
use Rattle.model.specs.declared.timing.Timing.{Timing}
use Rattle.model.specs.declared.row.Kind.{Kind}
use Rattle.model.specs.Scale.{scale}
use Rattle.board.specs.Split.{placed}
use Rattle.board.specs.Admit.{told}
use Rattle.promise.specs.declared.call.Call.{Call}
use Rattle.promise.specs.declared.call.Answer.{Answer}
use Rattle.promise.specs.Meaning.{Meaning}
use Rattle.promise.specs.Plan.{Plan}
use Rattle.promise.specs.Choosing.{Takes}
use Rattle.promise.specs.Promise.{meant, Promised, Along}
use Rattle.guest.specs.declared.side.Side.{Side}
use Rattle.guest.specs.Sides.{side, sooner}
use Rattle.guest.specs.Together.{guest_yes, guest_allowance}

-- what the guest's judge and rule mean
abbrev pub guest_meaning : Meaning Side
guest_meaning = meant sooner (λ p spare rows. side p) (guest_yes scale) guest_allowance

-- where a newcomer was put whole on an even processor, no odd one could have taken it
abbrev pub EvenOnlyThen : Plan → Call → Answer → Type 0
EvenOnlyThen plan (Call.Admit w) (Answer.Admitted r) =
    (p : ℕ) (x : Timing) → told r ≡ Ok (placed w.key p Kind.Whole x ∷ []) → p % 2 ≡ 0 →
    (q : ℕ) → q % 2 ≡ 1 → Takes (guest_yes scale) plan [] x q → ⊥
EvenOnlyThen plan (Call.Admit w) (Answer.Withdrawn r) = Unit {0}
EvenOnlyThen plan (Call.Admit w) (Answer.Loaded r) = Unit {0}
EvenOnlyThen plan (Call.Withdraw k) answer = Unit {0}
EvenOnlyThen plan (Call.Load image) answer = Unit {0}

-- at every call of every list: this is what the promise says of odd first
abbrev pub OddOnesFirst : Type 0
OddOnesFirst =
    (n : ℕ) (calls : List Call) (answers : List Answer) (last : Plan) (promised : Promised guest_meaning n calls answers last) →
    Along EvenOnlyThen promised.history
