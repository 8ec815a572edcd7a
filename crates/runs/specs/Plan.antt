-- A plan, the reservations that it is for, and the pieces that a release makes of its rows. Assumes nothing.
use Rattle.std.specs.Prelude.{ℕ, zero, suc, ◌+◌, cond, List, [], ◌∷◌, map, length, ◌==◌, slice_index, slice_index_or}
use Rattle.model.specs.declared.timing.Timing.{Timing}
use Rattle.model.specs.declared.row.Kind.{Kind}
use Rattle.model.specs.declared.row.Row.{Row}
use Rattle.model.specs.Row.{part}
use Rattle.runs.specs.Pieces.{Stream}

-- an accepted reservation: whenever it is released, at least a period apart, it is to have its budget within its deadline
pub record Reservation : Type 0 where
  pub key : ℕ
  pub budget : ℕ
  pub deadline : ℕ
  pub period : ℕ

-- the sum of what f gives at each place of a list
abbrev pub sum_at : {A : Type 0} → (ℕ → A → ℕ) → List A → ℕ
sum_at f [] = 0
sum_at f (x ∷ l) = f 0 x + sum_at (λ i. f (suc i)) l

-- A plan has a list of rows for each processor; a row has a key, a kind (whole, head, or tail with its number) and a timing.
-- This is the sum of f over all rows of a key, with their processors and places, both counted from 0.
abbrev pub total : (ℕ → ℕ → Row → ℕ) → ℕ → List (List Row) → ℕ
total f key plan = sum_at (λ p rows. sum_at (λ i r. cond (r.key == key) (f p i r) 0) rows) plan

-- how long after its start a piece is due, by the kind of its row: a whole or a head its deadline, a tail its budget
abbrev pub lasting : Kind → Timing → ℕ
lasting Kind.Whole x = x.deadline
lasting Kind.Head x = x.deadline
lasting (Kind.Tail j) x = x.budget

-- the same for a row
abbrev pub span : Row → ℕ
span r = lasting r.kind r.timing

-- the same for part j of a key: the whole or the head is part 0, and the tails count from 1 in serving order
abbrev pub part_span : List (List Row) → ℕ → ℕ → ℕ
part_span plan key j = total (λ p i r. cond (part r.kind == j) (span r) 0) key plan

-- how long after the release a part starts: the whole or the head at once, a tail when the part before it is due
abbrev pub offset : List (List Row) → ℕ → ℕ → ℕ
offset plan key zero = 0
offset plan key (suc j) = offset plan key j + part_span plan key j

-- a release pattern: for each key the ticks at which it is released, one for each instance
abbrev pub Pattern : Type 0
Pattern = ℕ → List ℕ

-- when instance k of a key is released
abbrev pub release : Pattern → ℕ → ℕ → ℕ
release pattern key k = slice_index (pattern key) k

-- a row's pieces: one for each instance of its key
abbrev pub pieces : List (List Row) → Pattern → Row → Stream
pieces plan pattern r = record {
  turns = length (pattern r.key);
  start = λ k. release pattern r.key k + offset plan r.key (part r.kind);
  due = λ k. release pattern r.key k + offset plan r.key (part r.kind) + span r;
  need = λ k. r.timing.budget;
}

-- the work of processor p: the pieces of its rows
abbrev pub work : List (List Row) → Pattern → ℕ → List Stream
work plan pattern p = map (pieces plan pattern) (slice_index_or plan p [])
