-- The image of a plan: its bytes as save writes them. Assumes nothing.
use Rattle.std.specs.Prelude.{ℕ, ◌+◌, cond, List, [], ◌∷◌, ◌++◌, length, ◌==◌}
use Rattle.model.specs.declared.row.Row.{Row}
use Rattle.model.specs.Row.{kind_number, part}
use Rattle.store.specs.Numbers.{two_bytes, four_bytes}

-- a row as a record of 18 bytes, with the number of the record that follows it on its processor
abbrev pub record_bytes : ℕ → Row → List ℕ
record_bytes next row =
    two_bytes next ++ (two_bytes row.key ++ (kind_number row.kind ∷ part row.kind ∷
    (four_bytes row.timing.budget ++ (four_bytes row.timing.deadline ++ four_bytes row.timing.period))))

-- the number of the first of so many records that are numbered from n on; 0 where there is none
abbrev pub first : ℕ → ℕ → ℕ
first n count = cond (count == 0) 0 n

-- the records of one processor's rows, numbered from n on
abbrev pub chain_bytes : ℕ → List Row → List ℕ
chain_bytes n [] = []
chain_bytes n (row ∷ rows) = record_bytes (first (n + 1) (length rows)) row ++ chain_bytes (n + 1) rows

-- the records of a plan, processor by processor in row order
abbrev pub records_bytes : ℕ → List (List Row) → List ℕ
records_bytes n [] = []
records_bytes n (rows ∷ plan) = chain_bytes n rows ++ records_bytes (n + length rows) plan

-- for each processor the number of its first record
abbrev pub heads_bytes : ℕ → List (List Row) → List ℕ
heads_bytes n [] = []
heads_bytes n (rows ∷ plan) = two_bytes (first n (length rows)) ++ heads_bytes (n + length rows) plan

abbrev pub row_count : List (List Row) → ℕ
row_count [] = 0
row_count (rows ∷ plan) = length rows + row_count plan

-- the form, the processor count and the record count
abbrev pub header_bytes : ℕ → ℕ → List ℕ
header_bytes m r = 1 ∷ m ∷ two_bytes r

-- the header, then the chain heads, then the records
abbrev pub image : List (List Row) → List ℕ
image plan = header_bytes (length plan) (row_count plan) ++ (heads_bytes 1 plan ++ records_bytes 1 plan)
