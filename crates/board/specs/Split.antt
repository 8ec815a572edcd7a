-- Splitting: tails are set until what is left finds a place as the head. Assumes nothing.
use Rattle.std.specs.Prelude.{ℕ, zero, suc, ◌+◌, ◌-◌, Bool, List, [], ◌∷◌, ◌++◌, reverse, length, ℤ, Some, None, Option, slice_index_or}
use Rattle.model.specs.declared.timing.Timing.{Timing}
use Rattle.model.specs.declared.row.Kind.{Kind}
use Rattle.model.specs.declared.row.Row.{Row}
use Rattle.board.specs.declared.cut.Cut.{Cut}
use Rattle.board.specs.declared.admission.Placed.{Placed}
use Rattle.board.specs.Place.{place}
use Rattle.board.specs.Tail.{next_cut}

-- a row of a reservation on processor p
abbrev pub placed : ℕ → ℕ → Kind → Timing → Placed
placed key p kind x = record { processor = p; row = record { key = key; kind = kind; timing = x } }

-- the tail at place i in serving order: the one set last is served first
abbrev pub served : List Cut → ℕ → Cut → Cut
served cuts i d = slice_index_or cuts (length cuts - 1 - i) d

-- the rows of tails in serving order, numbered from a part on
abbrev pub tails : ℕ → ℕ → List Cut → List Placed
tails key part [] = []
tails key part (cut ∷ cuts) = placed key cut.processor (Kind.Tail part) cut.timing ∷ tails key (part + 1) cuts

-- the rows of a split reservation: its head, then its tails; the tail set last is served first, so it has part 1
abbrev pub split_rows : ℕ → ℕ → Timing → List Cut → List Placed
split_rows key p head cuts = placed key p Kind.Head head ∷ tails key 1 (reverse cuts)

-- the head on the processor that was found, or else what comes of more tails
abbrev pub or_more : (ℕ → List Placed) → Option ℕ → Option (List Placed) → Option (List Placed)
or_more rows (Some p) more = Some (rows p)
or_more rows None more = more

-- with one more tail, the head is tried like a whole; no tail, no place
abbrev pub after_cut :
    ℕ → (List Cut → Timing → Option ℕ) → (List Cut → Timing → Option (List Placed)) →
    List Cut → Option (Cut × Timing) → Option (List Placed)
after_cut key place more cuts None = None
after_cut key place more cuts (Some s) =
    or_more (λ p. split_rows key p s.1 (cuts ++ (s.0 ∷ []))) (place (cuts ++ (s.0 ∷ [])) s.1) (more (cuts ++ (s.0 ∷ [])) s.1)

-- with at most n more tails, after these were set and x is left
abbrev pub split :
    ℕ → (List Cut → Timing → Option ℕ) → (List Cut → Timing → Option (Cut × Timing)) →
    ℕ → List Cut → Timing → Option (List Placed)
split key place next zero cuts x = None
split key place next (suc n) cuts x = after_cut key place (split key place next n) cuts (next cuts x)

-- the rows of a newcomer that is split; the head needs a processor of its own, so there are fewer tails than processors
abbrev pub split_up :
    {R : Type 0} → (R → R → Bool) → (ℕ → ℤ → ℕ → R) → (List Timing → Bool) → (List Timing → ℕ → ℕ → ℕ) →
    List (List Row) → ℕ → Timing → Option (List Placed)
split_up first ranks accepts allows plan key x =
    split key (place first ranks accepts plan) (next_cut allows plan) (length plan - 1) [] x
