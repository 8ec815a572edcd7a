-- The bytes of the workbench's own replies. Assumes nothing.
use Rattle.std.specs.Prelude.{ℕ, Bool, cond, List, [], ◌∷◌, codes, decimal}
use Rattle.model.specs.declared.row.Row.{Row}
use Rattle.model.specs.declared.timing.Timing.{Timing}
use Rattle.model.specs.Row.{part, kind_word}
use Rattle.lines.specs.Replies.{line_of}
use Rattle.benchlines.specs.Hex.{digits_of}

-- a refusal with its number and its place
abbrev pub refused_at : ℕ → ℕ → List ℕ
refused_at number place = line_of (codes "refused" ∷ (decimal number ∷ (decimal place ∷ [])))

-- an image behind a word
abbrev pub image_line : List ℕ → List ℕ → List ℕ
image_line word bytes = line_of (word ∷ (digits_of bytes ∷ []))

-- a row that was looked at: key, kind, part, budget, deadline, period
abbrev pub shown_line : Row → List ℕ
shown_line r =
    line_of (codes "row" ∷ (decimal r.key ∷ (kind_word r.kind ∷ (decimal (part r.kind)
    ∷ (decimal r.timing.budget ∷ (decimal r.timing.deadline ∷ (decimal r.timing.period ∷ [])))))))

abbrev pub timing_line : Timing → List ℕ
timing_line t = line_of (decimal t.budget ∷ (decimal t.deadline ∷ (decimal t.period ∷ [])))

abbrev pub allowance_line : ℕ → List ℕ
allowance_line number = line_of (codes "allowance" ∷ (decimal number ∷ []))

-- a judge's answer
abbrev pub verdict_line : Bool → List ℕ
verdict_line accepted = line_of (cond accepted (codes "yes") (codes "no") ∷ [])
