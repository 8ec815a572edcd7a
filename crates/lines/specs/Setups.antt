-- What the first line sets up, and why one is refused. Assumes nothing.
use Rattle.std.specs.Prelude.{ℕ, Bool, cond, not, ◌&&◌, ◌||◌, List, [], length, is_some, Some, None, Ok, Err, codes, Option, Result, ◌==◌, nat_lt, slice_index_or}
use Rattle.std.specs.Str.{bytes_eq}
use Rattle.model.specs.declared.fault.LineFault.{LineFault}
use Rattle.model.specs.Refusal.{line_number, setup_number}
use Rattle.lines.specs.declared.setup.Setup.{Setup}
use Rattle.lines.specs.declared.setup.OpeningFault.{OpeningFault}
use Rattle.lines.specs.declared.setup.JudgeWord.{JudgeWord}
use Rattle.lines.specs.declared.setup.RuleWord.{RuleWord}
use Rattle.lines.specs.Fields.{fields, says}
use Rattle.lines.specs.Numbers.{number_of, then_do}
use Rattle.lines.specs.Commands.{too_long}

-- the words for a judge
abbrev pub judge_word : List ℕ → Option JudgeWord
judge_word w =
    cond (bytes_eq w (codes "density")) (Some JudgeWord.Density)
    (cond (bytes_eq w (codes "demand")) (Some JudgeWord.Demand)
    (cond (bytes_eq w (codes "either")) (Some JudgeWord.Either) None))

-- the words for a placement rule
abbrev pub rule_word : List ℕ → Option RuleWord
rule_word w =
    cond (bytes_eq w (codes "best")) (Some RuleWord.Best)
    (cond (bytes_eq w (codes "fewest")) (Some RuleWord.Fewest) None)

-- whether a word that stands is unknown at its place: `board` at the first, a judge at the fifth, a rule at the sixth
abbrev pub unknown_word : List (List ℕ) → Bool
unknown_word fs =
    (nat_lt 0 (length fs) && not (says fs 0 (codes "board")))
    || ((nat_lt 4 (length fs) && not (is_some (judge_word (slice_index_or fs 4 [])))) || (nat_lt 5 (length fs) && not (is_some (rule_word (slice_index_or fs 5 [])))))

-- a word that has to be known
abbrev pub known : {A : Type 0} → Option A → Result A LineFault
known (Some x) = Ok x
known None = Err LineFault.Word

-- the settings of six fields
abbrev pub settings : List (List ℕ) → Result Setup LineFault
settings fs =
    then_do (number_of (slice_index_or fs 1 [])) (λ processors. then_do (number_of (slice_index_or fs 2 [])) (λ steps.
    then_do (number_of (slice_index_or fs 3 [])) (λ refinements. then_do (known (judge_word (slice_index_or fs 4 []))) (λ judge.
    then_do (known (rule_word (slice_index_or fs 5 []))) (λ rule.
    Ok (record { processors = processors; steps = steps; refinements = refinements; judge = judge; rule = rule }))))))

-- what the first line sets up: too long is told first, then an unknown word, then a wrong field count, then a field that is no number
abbrev pub setup_of : List ℕ → Result Setup LineFault
setup_of line =
    cond (too_long line) (Err LineFault.Long)
    (cond (unknown_word (fields line)) (Err LineFault.Word)
    (cond (length (fields line) == 6) (settings (fields line)) (Err LineFault.Fields)))

-- the number of a refusal of the first line
abbrev pub opening_number : OpeningFault → ℕ
opening_number (OpeningFault.Line fault) = line_number fault
opening_number (OpeningFault.Setup fault) = setup_number fault
