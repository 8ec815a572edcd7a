-- Small runs that are late. Assumes nothing.
use Rattle.std.proofs.Common.{ℕ, zero, suc, ◌+◌, ◌<◌, ◌≤◌, List, [], ◌∷◌, length, get_or, refl, arith, lit<, lit≤}
use Rattle.std.proofs.lemmas.Bool.{le-ltb}
use Rattle.model.specs.declared.timing.Timing.{Timing}
use Rattle.runs.specs.Pieces.{Stream}
use Rattle.runs.specs.Run.{idle, serves}
use Rattle.runs.specs.Streams.{StreamOf, none, more}
use Rattle.runs.specs.Processor.{DemandFits}
use Rattle.runs.specs.Board.{Apart}
use Rattle.runs.specs.Needed.{later, StartsClose, TailEarly, IdleTick, LaterFirst}
use Rattle.runs.proofs.Promise.{apart_at}
use Rattle.runs.proofs.Building.{built, built_rule}

abbrev pub short : Timing
short = record { budget = 1; deadline = 1; period = 2; some = lit≤ tt; fits = lit≤ tt; constrained = lit≤ tt; short = lit≤ tt }

abbrev pub long : Timing
long = record { budget = 1; deadline = 2; period = 2; some = lit≤ tt; fits = lit≤ tt; constrained = lit≤ tt; short = lit≤ tt }

-- the pieces of a timing, started at these ticks
abbrev pub started : Timing → List ℕ → Stream
started x ticks = record { turns = length ticks; start = λ k. get_or ticks k 0; due = λ k. get_or ticks k 0 + x.deadline; need = λ k. x.budget }

pub started_stream : (x : Timing) (ticks : List ℕ) → Apart x.period ticks → StreamOf x (started x ticks)
started_stream x ticks apart = record { apart = apart_at x.period ticks apart; due = λ k b. refl; need = λ k b. omega arith }

pub both_fit : DemandFits (short ∷ (long ∷ []))
both_fit zero = omega arith
both_fit (suc zero) = omega arith
both_fit (suc (suc t)) = rw (le-ltb (suc (suc t)) 1 (omega arith), le-ltb (suc (suc t)) 2 (omega arith)) (omega arith)

-- short, with a period one tick shorter
abbrev shorter : Timing
shorter = record { budget = 1; deadline = 1; period = 1; some = lit≤ tt; fits = lit≤ tt; constrained = lit≤ tt; short = lit≤ tt }

abbrev close : List Stream
close = started short (0 ∷ (1 ∷ [])) ∷ (started long (0 ∷ []) ∷ [])

pub starts_close : StartsClose
starts_close = record {
  x = short;
  rest = long ∷ [];
  fits = both_fit;
  y = shorter;
  same_budget = refl;
  same_deadline = refl;
  shorter_period = refl;
  work = close;
  streams = more (started_stream shorter (0 ∷ (1 ∷ [])) (lit≤ tt, tt)) (more (started_stream long (0 ∷ []) tt) none);
  run = built close (λ t. idle) 0;
  rule = λ t. built_rule close (λ t. idle) 0 t (omega arith);
  late = record { i = 1; k = 0; real = lit< tt; lacks = lit< tt };
}

abbrev early : Stream
early = started short (1 ∷ (2 ∷ []))

pub tail_early : TailEarly
tail_early = record {
  x = short;
  tail = refl;
  rest = long ∷ [];
  fits = both_fit;
  σ = early;
  m = 1;
  but_one = record { apart = apart; due = λ k b. omega arith; need = λ k b. omega arith };
  others = started long (1 ∷ []) ∷ [];
  streams = more (started_stream long (1 ∷ []) tt) none;
  run = built (early ∷ (started long (1 ∷ []) ∷ [])) (λ t. idle) 0;
  rule = λ t. built_rule (early ∷ (started long (1 ∷ []) ∷ [])) (λ t. idle) 0 t (omega arith);
  late = record { i = 1; k = 0; real = lit< tt; lacks = lit< tt };
}
  where
    apart : (k : ℕ) → suc k < 2 → (later 1 early).start k + 2 ≤ (later 1 early).start (suc k)
    apart zero b = lit≤ tt
    apart (suc k) b = omega arith

abbrev pair : List Stream
pair = started short (0 ∷ []) ∷ (started long (0 ∷ []) ∷ [])

pub idle_tick : IdleTick
idle_tick = record {
  l = short ∷ (long ∷ []);
  fits = both_fit;
  work = pair;
  streams = more (started_stream short (0 ∷ []) tt) (more (started_stream long (0 ∷ []) tt) none);
  run = built pair (λ t. idle) 1;
  first = refl;
  i = 0;
  k = 0;
  waits = record { real = lit< tt; started = lit≤ tt; lacks = lit< tt };
  rule = λ t l. built_rule pair (λ t. idle) 1 t l;
  late = record { i = 0; k = 0; real = lit< tt; lacks = lit< tt };
}

pub later_first : LaterFirst
later_first = record {
  l = short ∷ (long ∷ []);
  fits = both_fit;
  work = pair;
  streams = more (started_stream short (0 ∷ []) tt) (more (started_stream long (0 ∷ []) tt) none);
  run = built pair (λ t. serves 1 0) 1;
  i = 1;
  k = 0;
  first = refl;
  waits = record { real = lit< tt; started = lit≤ tt; lacks = lit< tt };
  rule = λ t l. built_rule pair (λ t. serves 1 0) 1 t l;
  late = record { i = 0; k = 0; real = lit< tt; lacks = lit< tt };
}
