-- Going through the gathered keys and the processors together. Assumes nothing.
use Rattle.std.proofs.Common.{◌≡◌, ℕ, ◌+◌, List, [], ◌∷◌, ◌++◌, map, refl, ap, Bor}
use Rattle.std.specs.List.{zip, enumerate_from, flat_map}
use Rattle.processor.specs.declared.rows.Processor.{Processor}
use Rattle.processor.specs.Rows.{rows_of}
use Rattle.session.specs.Rows.{gathered_line, gathered_text}

-- what the loop is given: a place counted from 0, the key gathered there, and the processor
abbrev pub seen : ℕ × (Bor ℕ × Bor Processor) → ℕ × (ℕ × Processor)
seen x = (x.0, (x.1.0.now, x.1.1.now))

-- the line for it
abbrev pub line_at : ℕ × (ℕ × Processor) → List ℕ
line_at x = gathered_line (x.0 + 1) x.1.0 (rows_of x.1.1)

-- the lines for all of them
pub lines_gathered : (n : ℕ) (keys : List ℕ) (all : List Processor)
    → flat_map line_at (enumerate_from n (zip keys all)) ≡ gathered_text (n + 1) keys (map rows_of all)
lines_gathered n [] all = refl
lines_gathered n (key ∷ keys) [] = refl
lines_gathered n (key ∷ keys) (p ∷ all) = ap (λ l. gathered_line (n + 1) key (rows_of p) ++ l) (lines_gathered (n + 1) keys all)
