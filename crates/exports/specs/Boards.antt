-- What is replied to a list of calls on a stored plan. Assumes nothing.
use Rattle.std.specs.Prelude.{◌≡◌, ℕ, ◌+◌, Bool, ◌⊎◌, List, [], ◌∷◌, replicate, ℤ, Some, None, Ok, Err, Option, Result, int_lt}
use Rattle.model.specs.Refusal.{setup_number}
use Rattle.model.specs.Scale.{scale}
use Rattle.model.specs.declared.row.Row.{Row}
use Rattle.model.specs.declared.timing.Timing.{Timing}
use Rattle.model.specs.declared.wanted.Wanted.{Wanted}
use Rattle.judges.specs.Allowance.{demand_allowance}
use Rattle.judges.specs.Demand.{demand_yes}
use Rattle.judges.specs.declared.demand.Demand.{Demand}
use Rattle.placement.specs.declared.best.Best.{Best}
use Rattle.board.specs.Admit.{admitted, after}
use Rattle.board.specs.Plan.{plan}
use Rattle.board.specs.Withdraw.{withdrawal}
use Rattle.board.specs.declared.board.Board.{Board}
use Rattle.store.specs.Load.{Loaded}
use Rattle.store.specs.Refusal.{buffer_number}
use Rattle.store.specs.declared.fault.BufferFault.{BufferFault}
use Rattle.wadispoon.specs.Sizes.{sizes_fault}
use Rattle.exports.specs.declared.numbers.Setting.{Setting}
use Rattle.exports.specs.declared.refusal.Refusal.{Refusal}
use Rattle.exports.specs.declared.reply.Reply.{Reply}
use Rattle.exports.specs.Judging.{numbered}
use Rattle.exports.specs.Refusal.{refusal_number}

-- 1 for what was done, 0 for a refusal
abbrev pub done : {A F : Type 0} → Result A F → ℕ
done (Ok a) = 1
done (Err f) = 0

-- the sum of what the steps of a list count, each on the plan that the one before left
abbrev pub count_over : {X : Type 0} → (List (List Row) → X → ℕ × List (List Row)) → List (List Row) → List X → ℕ
count_over step plan [] = 0
count_over step plan (x ∷ l) = (step plan x).0 + count_over step (step plan x).1 l

-- an admission counts if it is not refused
abbrev pub admitting :
    {R : Type 0} → (R → R → Bool) → (ℕ → ℤ → ℕ → R) → (List Timing → Bool) → (List Timing → ℕ → ℕ → ℕ) → List (List Row) → Wanted → ℕ × List (List Row)
admitting first ranks accepts allows plan w =
    let answer = admitted first ranks accepts allows plan w.key w.budget w.deadline w.period in (done answer, after plan answer)

-- so does a withdrawal
abbrev pub withdrawing : (List Timing → Bool) → List (List Row) → ℕ → ℕ × List (List Row)
withdrawing accepts plan key = (done (withdrawal accepts key plan).0, (withdrawal accepts key plan).1)

-- the setting is refused
abbrev pub setting_refusal : Setting → Option ℕ
setting_refusal s = numbered setup_number (sizes_fault s.processors s.steps s.refinements)

-- what loading an image on an empty board of a setting answers, and the plan that it leaves
abbrev pub Stored : Setting → List ℕ → Result (Unit {0}) BufferFault → List (List Row) → Type 0
Stored s image = Loaded (demand_yes scale s.steps) image (replicate s.processors [])

-- a setting is taken, and its image is refused or memory is wanting
abbrev pub NotStored : Setting → List ℕ → ℕ → Type 0
NotStored s image k =
    (k ≡ 255) ⊎ ((f : BufferFault) × (left : List (List Row)) × Stored s image (Err f) left × (k ≡ buffer_number f.rule))

-- a board of a setting with the plan of an image, or the first refusal
abbrev pub Opened : Setting → List ℕ → Result (Board Demand Best) Refusal → Type 0
Opened s image (Ok b) =
    (setting_refusal s ≡ None) × (b.judge.steps ≡ s.steps) × (b.judge.refinements ≡ s.refinements) × Stored s image (Ok tt) (plan b)
Opened s image (Err f) =
    (setting_refusal s ≡ Some (refusal_number f)) ⊎ ((setting_refusal s ≡ None) × NotStored s image (refusal_number f))

-- the first refusal, or what is counted on the plan of the image
pub data Counted (s : Setting) (image : List ℕ) (count : List (List Row) → ℕ) (reply : Reply) : Type 0 where
  unset : setting_refusal s ≡ Some reply.refused → reply.value ≡ 0 → Counted s image count reply
  unstored : setting_refusal s ≡ None → NotStored s image reply.refused → reply.value ≡ 0 → Counted s image count reply
  counted :
      (plan : List (List Row)) → setting_refusal s ≡ None → Stored s image (Ok tt) plan → reply.refused ≡ 0 → reply.value ≡ count plan →
      Counted s image count reply

-- how many are admitted by the demand judge and best fit
abbrev pub Admitting : Setting → List ℕ → List Wanted → Reply → Type 0
Admitting s image wanted =
    Counted s image
    (λ plan. count_over (admitting int_lt (λ processor spare rows. spare) (demand_yes scale s.steps) (demand_allowance scale s.steps s.refinements)) plan wanted)

-- how many are withdrawn
abbrev pub Withdrawing : Setting → List ℕ → List ℕ → Reply → Type 0
Withdrawing s image keys = Counted s image (λ plan. count_over (withdrawing (demand_yes scale s.steps)) plan keys)
