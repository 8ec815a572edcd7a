-- Small boards on which an instance is late. Assumes nothing.
use Rattle.std.proofs.Common.{◌≡◌, ℕ, zero, suc, cond, eqb, List, [], ◌∷◌, refl, inl, inr, arith, lit<, lit≤}
use Rattle.std.proofs.lemmas.Bool.{le-ltb}
use Rattle.model.specs.declared.timing.Timing.{Timing}
use Rattle.model.specs.declared.row.Kind.{Kind}
use Rattle.model.specs.declared.row.Row.{Row}
use Rattle.runs.specs.Run.{Slot, idle}
use Rattle.runs.specs.Processor.{DemandFits}
use Rattle.runs.specs.Plan.{Reservation, Pattern, work}
use Rattle.runs.specs.Needed.{HeadKeepsDeadline, TailWithSlack, StrayRow, PartTwice}
use Rattle.runs.proofs.Building.{built, built_rule}
use Rattle.runs.proofs.Examples.{short, long, both_fit}

abbrev row : ℕ → Kind → Timing → Row
row key kind timing = record { key = key; kind = kind; timing = timing }

-- the run in which ties go to the row that stands first
abbrev first : List (List Row) → Pattern → ℕ → ℕ → Slot
first plan pattern p = built (work plan pattern p) (λ t. idle) 0

short_fits : DemandFits (short ∷ [])
short_fits zero = omega arith
short_fits (suc t) = rw (le-ltb (suc t) 1 (omega arith)) (omega arith)

long_fits : DemandFits (long ∷ [])
long_fits zero = omega arith
long_fits (suc zero) = omega arith
long_fits (suc (suc t)) = rw (le-ltb (suc (suc t)) 2 (omega arith)) (omega arith)

-- two ticks within two ticks
abbrev two : Reservation
two = record { key = 1; budget = 2; deadline = 2; period = 2 }

abbrev at_once : Pattern
at_once key = 0 ∷ []

abbrev kept : List (List Row)
kept = (row 1 Kind.Head long ∷ []) ∷ ((row 1 (Kind.Tail 1) short ∷ []) ∷ [])

pub head_keeps_deadline : HeadKeepsDeadline
head_keeps_deadline = record {
  x = two;
  head = row 1 Kind.Head long;
  tail = row 1 (Kind.Tail 1) short;
  is_head = refl;
  is_tail = refl;
  head_of = (refl, refl);
  tail_of = (refl, refl);
  tight = refl;
  budget = refl;
  kept = refl;
  head_fits = long_fits;
  tail_fits = short_fits;
  late = record {
    n = 0;
    x = two;
    among = refl;
    pattern = at_once;
    legal = (tt, tt);
    k = 0;
    released = lit< tt;
    run = first kept at_once;
    rule = λ p t. built_rule (work kept at_once p) (λ t. idle) 0 t (omega arith);
    lacks = lit< tt;
  };
}

-- one tick, at once or within two ticks
abbrev hasty : Reservation
hasty = record { key = 2; budget = 1; deadline = 1; period = 2 }

abbrev slack : List (List Row)
slack = (row 1 Kind.Head short ∷ []) ∷ ((row 2 Kind.Whole short ∷ (row 1 (Kind.Tail 1) long ∷ [])) ∷ [])

-- the first key at 0, the second when the tail starts
abbrev then : Pattern
then key = cond (eqb key 1) 0 1 ∷ []

pub tail_with_slack : TailWithSlack
tail_with_slack = record {
  accepted = two ∷ (hasty ∷ []);
  plan = slack;
  owned = ((inl (refl, refl), tt), ((inr (inl (refl, refl)), (inl (refl, refl), tt)), tt));
  slack = ((lit≤ tt, tt), ((lit≤ tt, (lit≤ tt, tt)), tt));
  sums = (record { budget = refl; deadline = refl }, (record { budget = refl; deadline = refl }, tt));
  fits = (short_fits, (both_fit, tt));
  late = record {
    n = 0;
    x = two;
    among = refl;
    pattern = then;
    legal = (tt, (tt, tt));
    k = 0;
    released = lit< tt;
    run = first slack then;
    rule = λ p t. built_rule (work slack then p) (λ t. idle) 0 t (omega arith);
    lacks = lit< tt;
  };
}

abbrev slow : Reservation
slow = record { key = 1; budget = 1; deadline = 2; period = 2 }

abbrev strayed : List (List Row)
strayed = (row 2 Kind.Whole short ∷ (row 1 Kind.Whole long ∷ [])) ∷ []

-- the second key in ticks 0 and 1, which nobody forbids
abbrev free : Pattern
free key = 0 ∷ cond (eqb key 2) (1 ∷ []) []

pub stray_row : StrayRow
stray_row = record {
  accepted = slow ∷ [];
  plan = strayed;
  stray = 2;
  owned = ((λ other. absurd (other refl), (λ other. inl (refl, refl), tt)), tt);
  tight = ((refl, (refl, tt)), tt);
  sums = (record { budget = refl; deadline = refl }, tt);
  fits = (both_fit, tt);
  late = record {
    n = 0;
    x = slow;
    among = refl;
    pattern = free;
    legal = (tt, tt);
    k = 0;
    released = lit< tt;
    run = first strayed free;
    rule = λ p t. built_rule (work strayed free p) (λ t. idle) 0 t (omega arith);
    lacks = lit< tt;
  };
}

-- two heads, of one tick each
abbrev double : List (List Row)
double = (row 1 Kind.Head short ∷ []) ∷ ((row 1 Kind.Head short ∷ []) ∷ [])

pub part_twice : PartTwice
part_twice = record {
  accepted = two ∷ [];
  plan = double;
  stands = record {
    owned = ((inl (refl, refl), tt), ((inl (refl, refl), tt), tt));
    tight = ((refl, tt), ((refl, tt), tt));
    sums = (record { budget = refl; deadline = refl }, tt);
  };
  fits = (short_fits, (short_fits, tt));
  pattern = at_once;
  legal = (tt, tt);
  run = first double at_once;
  rule = λ p t. built_rule (work double at_once p) (λ t. idle) 0 t (omega arith);
  twice = λ alone. absurd_one (alone 0 0 0 0 1 0 (row 1 Kind.Head short ∷ []) (row 1 Kind.Head short ∷ []) (row 1 Kind.Head short) (row 1 Kind.Head short)
      refl refl refl refl refl refl refl);
}
  where
    absurd_one : ◌≡◌ {A = ℕ} 0 1 → ⊥
    absurd_one e = omega arith
