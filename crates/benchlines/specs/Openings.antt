-- What the first line sets up, and why one is refused. Assumes nothing.
use Rattle.std.specs.Prelude.{◌≡◌, ℕ, ◌-◌, min, Bool, cond, not, ◌&&◌, ◌||◌, List, [], map, length, is_some, Some, None, Ok, Err, codes, Option, Result, ◌==◌, nat_lt, slice_index_or}
use Rattle.model.specs.declared.fault.LineFault.{LineFault}
use Rattle.model.specs.declared.fault.SetupFault.{SetupFault}
use Rattle.judges.specs.Setting.{setting_fault}
use Rattle.placement.specs.declared.listed.Listed.{Listed}
use Rattle.placement.specs.Order.{listed}
use Rattle.lines.specs.declared.setup.JudgeWord.{JudgeWord}
use Rattle.lines.specs.declared.setup.RuleWord.{RuleWord}
use Rattle.lines.specs.Fields.{fields, says}
use Rattle.lines.specs.Numbers.{then_do}
use Rattle.lines.specs.Setups.{judge_word, rule_word}
use Rattle.benchlines.specs.declared.opening.Rule.{Rule}
use Rattle.benchlines.specs.declared.opening.Opening.{Opening}
use Rattle.lines.specs.declared.setup.OpeningFault.{OpeningFault}
use Rattle.benchlines.specs.declared.settings.RuleSetting.{RuleSetting}
use Rattle.benchlines.specs.declared.settings.Settings.{Settings}
use Rattle.benchlines.specs.Numbers.{number_at, numbers_at, checked}
use Rattle.benchlines.specs.Tasks.{too_long}

-- whether the rule is an order of its own
abbrev pub is_listed : List (List ℕ) → Bool
is_listed fs = says fs 5 (codes "listed")

-- whether a word that stands is unknown at its place: `board` at the first, a judge at the fifth, a rule at the sixth
abbrev pub unknown_word : List (List ℕ) → Bool
unknown_word fs =
    (nat_lt 0 (length fs) && not (says fs 0 (codes "board")))
    || ((nat_lt 4 (length fs) && not (is_some (judge_word (slice_index_or fs 4 []))))
    || (nat_lt 5 (length fs) && (not (is_some (rule_word (slice_index_or fs 5 []))) && not (is_listed fs))))

-- six fields, and eight more for an order
abbrev pub wanted : List (List ℕ) → ℕ
wanted fs = cond (is_listed fs) 14 6

-- the numbers of the settings, and those of an order
abbrev pub checked_all : List (List ℕ) → Result (Unit {0}) LineFault
checked_all fs = then_do (checked fs 1 3) (λ u. checked fs 6 (wanted fs - 6))

-- a judge that has to be known, with the rule
abbrev pub paired : Option JudgeWord → Option RuleWord → Result (JudgeWord × Option RuleWord) LineFault
paired (Some judge) rule = Ok (judge, rule)
paired None rule = Err LineFault.Word

-- a first line of the right words and the right number of fields, each a number where one is wanted: its judge, and its rule if that has a word
abbrev pub worded : List (List ℕ) → Result (JudgeWord × Option RuleWord) LineFault
worded fs = then_do (checked_all fs) (λ u. paired (judge_word (slice_index_or fs 4 [])) (rule_word (slice_index_or fs 5 [])))

-- a line too long is told first, then an unknown word, then a wrong count, then a field that is no number
abbrev pub words_of : List ℕ → Result (JudgeWord × Option RuleWord) LineFault
words_of line =
    cond (too_long line) (Err LineFault.Long)
    (cond (unknown_word (fields line)) (Err LineFault.Word)
    (cond (length (fields line) == wanted (fields line)) (worded (fields line)) (Err LineFault.Fields)))

-- the rule that a line writes down: its word, else the numbers of its order
abbrev pub rule_written : List (List ℕ) → Option RuleWord → RuleSetting
rule_written fs (Some word) = RuleSetting.Named word
rule_written fs None = RuleSetting.Listed (numbers_at fs 6 8)

-- the settings that a line writes down
abbrev pub settings_written : List (List ℕ) → JudgeWord → Option RuleWord → Settings
settings_written fs judge word =
    record { processors = number_at fs 1; steps = number_at fs 2; refinements = number_at fs 3; judge = judge; rule = rule_written fs word }

-- the rule of eight numbers, refused unless they are 1 to 8, once each; one above 8 counts as 9, which no order holds
abbrev pub order_of : List ℕ → Result Listed SetupFault
order_of numbers = listed (map (λ n. min n 9) numbers)

abbrev pub ruled : Result Listed SetupFault → Result Rule SetupFault
ruled (Ok order) = Ok (Rule.Listed order)
ruled (Err fault) = Err fault

-- the rule that has this word, else the one of this order
abbrev pub rule_of : RuleSetting → Result Rule SetupFault
rule_of (RuleSetting.Named word) = Ok (Rule.Named word)
rule_of (RuleSetting.Listed numbers) = ruled (order_of numbers)

-- a board has 1 to 8 processors
abbrev pub unfit : ℕ → Bool
unfit p = nat_lt p 1 || nat_lt 8 p

-- the first number of the settings that is refused: processors, steps, refinements
abbrev pub sizes_fault : Settings → Option SetupFault
sizes_fault s = cond (unfit s.processors) (Some SetupFault.Processors) (setting_fault s.steps s.refinements)

-- the rule of the settings, or their first refusal, an order's the last
abbrev pub settled_rule : Option SetupFault → Result Rule SetupFault → Result Rule SetupFault
settled_rule (Some fault) rule = Err fault
settled_rule None rule = rule

-- just these settings, or their first refusal
abbrev pub Settled : Settings → Result Opening SetupFault → Type 0
Settled s (Ok o) =
    (settled_rule (sizes_fault s) (rule_of s.rule) ≡ Ok o.rule) × (o.processors ≡ s.processors)
    × (o.demand.steps ≡ s.steps) × (o.demand.refinements ≡ s.refinements) × (o.judge ≡ s.judge)
Settled s (Err fault) = settled_rule (sizes_fault s) (rule_of s.rule) ≡ Err fault

-- the settings of a line whose words, count and numbers are in order
abbrev pub OpenedBy : List (List ℕ) → Result (JudgeWord × Option RuleWord) LineFault → Result Opening OpeningFault → Type 0
OpenedBy fs (Ok words) (Ok o) = Settled (settings_written fs words.0 words.1) (Ok o)
OpenedBy fs (Ok words) (Err (OpeningFault.Setup fault)) = Settled (settings_written fs words.0 words.1) (Err fault)
OpenedBy fs (Ok words) (Err (OpeningFault.Line fault)) = ⊥
OpenedBy fs (Err told) (Ok o) = ⊥
OpenedBy fs (Err told) (Err fault) = fault ≡ OpeningFault.Line told

-- the board that a first line asks for, or the first refusal that applies
abbrev pub Opened : List ℕ → Result Opening OpeningFault → Type 0
Opened line = OpenedBy (fields line) (words_of line)
