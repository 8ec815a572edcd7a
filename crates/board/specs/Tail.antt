-- The tail search: which processor takes the longest tail. Assumes nothing.
use Rattle.std.specs.Prelude.{◌≡◌, ℕ, ◌+◌, ◌-◌, Bool, cond, List, [], ◌∷◌, Some, None, Option, ◌==◌, nat_lt}
use Rattle.model.specs.declared.timing.Timing.{Timing}
use Rattle.model.specs.declared.row.Row.{Row}
use Rattle.board.specs.declared.cut.Cut.{Cut}
use Rattle.board.specs.declared.offer.Offer.{Offer}
use Rattle.processor.specs.Taking.{offers}
use Rattle.board.specs.Place.{used}
use Rattle.board.specs.Timed.{timed}

-- nothing is offered beside another part of the newcomer
abbrev pub unless_beside : Bool → ℕ → ℕ
unless_beside beside offer = cond beside 0 offer

-- what processor p offers: nothing where it has a part of the newcomer
abbrev pub offer_at : (List Timing → ℕ → ℕ → ℕ) → List Cut → ℕ → ℕ → ℕ → List Row → ℕ
offer_at allows cuts t c p rows = cond (used cuts p) 0 (offers allows rows t c)

-- a longer tail takes the place of the longest so far
abbrev pub longer : ℕ → ℕ → ℕ × ℕ → ℕ × ℕ
longer p b best = cond (nat_lt best.1 b) (p, b) best

-- what the longest offer so far is: its processor and its budget, which is 0 where there is none
abbrev pub found_offer : Option Offer → ℕ × ℕ
found_offer (Some o) = (o.processor, o.budget)
found_offer None = (0, 0)

-- the longest of these, of the processors numbered from p on: the processor and the budget
abbrev pub longest : (ℕ → List Row → ℕ) → ℕ → List (List Row) → ℕ × ℕ → ℕ × ℕ
longest offer p [] best = best
longest offer p (rows ∷ plan) best = longest offer (p + 1) plan (longer p (offer p rows) best)

-- the longest tail of period t and at most c, ties to the lower processor; budget 0 where nobody offers one
abbrev pub tail_search : (List Timing → ℕ → ℕ → ℕ) → List (List Row) → List Cut → ℕ → ℕ → ℕ × ℕ
tail_search allows plan cuts t c = longest (offer_at allows cuts t c) 1 plan (0, 0)

-- a tail of budget b is due b after it starts, and has the period of what it is cut off
abbrev pub TailOf : Timing → ℕ → Timing → Type 0
TailOf x b tail = (tail.budget ≡ b) × (tail.deadline ≡ b) × (tail.period ≡ x.period)

-- what is left has that much less budget and deadline, and the same period
abbrev pub RestOf : Timing → ℕ → Timing → Type 0
RestOf x b head = (head.budget ≡ x.budget - b) × (head.deadline ≡ x.deadline - b) × (head.period ≡ x.period)

-- the tail set on processor p, and the head that is left
abbrev pub cut_on : ℕ → Option Timing → Option Timing → Option (Cut × Timing)
cut_on p (Some tail) (Some head) = Some (record { processor = p; timing = tail }, head)
cut_on p (Some tail) None = None
cut_on p None head = None

-- a tail of budget b is due b after it starts; the rest keeps the period, and has that much less budget and deadline
abbrev pub cut_off : Timing → ℕ → ℕ → Option (Cut × Timing)
cut_off x p b =
    cond (b == 0) None
    (cut_on p (timed b b x.period) (timed (x.budget - b) (x.deadline - b) x.period))

-- the next tail of a newcomer of which x is left, and what is left then
abbrev pub next_cut : (List Timing → ℕ → ℕ → ℕ) → List (List Row) → List Cut → Timing → Option (Cut × Timing)
next_cut allows plan cuts x =
    let found = tail_search allows plan cuts x.period (x.budget - 1) in cut_off x found.0 found.1
