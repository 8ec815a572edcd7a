-- The settings that a first line writes down, or why they cannot be read. Assumes nothing.
use Rattle.std.specs.Prelude.{ℕ, List, [], Some, None, Ok, Option, Result, slice_index_or}
use Rattle.model.specs.declared.fault.LineFault.{LineFault}
use Rattle.lines.specs.declared.setup.RuleWord.{RuleWord}
use Rattle.lines.specs.Fields.{fields}
use Rattle.lines.specs.Numbers.{then_do}
use Rattle.lines.specs.Setups.{judge_word, rule_word}
use Rattle.benchlines.specs.declared.settings.RuleSetting.{RuleSetting}
use Rattle.benchlines.specs.declared.settings.Settings.{Settings}
use Rattle.benchlines.specs.Numbers.{number_at, checked, numbers_of}
use Rattle.benchlines.specs.Openings.{words_of, paired, settings_written}

-- the settings of a line, if its words, its count and its numbers are in order
abbrev pub settings_of : List ℕ → Result Settings LineFault
settings_of line = then_do (words_of line) (λ words. Ok (settings_written (fields line) words.0 words.1))

-- the rule that has this word, else the order that is listed, if each of its fields is a number
abbrev pub rule_among : List (List ℕ) → Option RuleWord → Result RuleSetting LineFault
rule_among fs (Some word) = Ok (RuleSetting.Named word)
rule_among fs None = then_do (numbers_of fs 6 8) (λ order. Ok (RuleSetting.Listed order))

-- the settings of fields whose count is in order
abbrev pub settings_among : List (List ℕ) → Result Settings LineFault
settings_among fs =
    let word = rule_word (slice_index_or fs 5 []) in
    then_do (checked fs 1 3) (λ u. then_do (rule_among fs word) (λ rule. then_do (paired (judge_word (slice_index_or fs 4 [])) word) (λ words.
    Ok (record { processors = number_at fs 1; steps = number_at fs 2; refinements = number_at fs 3; judge = words.0; rule = rule }))))
