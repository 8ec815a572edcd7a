-- Which judge and which placement rule the words name. Assumes nothing.
use Rattle.std.specs.Prelude.{ℕ, Bool, List, ℤ, int_lt}
use Rattle.model.specs.declared.timing.Timing.{Timing}
use Rattle.model.specs.Scale.{scale}
use Rattle.judges.specs.Density.{density_yes, density_allowance}
use Rattle.judges.specs.Demand.{demand_yes}
use Rattle.judges.specs.Allowance.{demand_allowance}
use Rattle.judges.specs.Either.{either_yes, either_allowance}
use Rattle.placement.specs.Ranks.{lighter}
use Rattle.lines.specs.declared.setup.JudgeWord.{JudgeWord}
use Rattle.lines.specs.declared.setup.RuleWord.{RuleWord}
use Rattle.lines.specs.declared.choice.NamedJudge.{NamedJudge}

-- what the judge of a word accepts, and what it allows, by the steps and refinements of the settings
abbrev pub accepts_by : JudgeWord → ℕ → List Timing → Bool
accepts_by JudgeWord.Density steps = density_yes scale
accepts_by JudgeWord.Demand steps = demand_yes scale steps
accepts_by JudgeWord.Either steps = either_yes (density_yes scale) (demand_yes scale steps)

abbrev pub allows_by : JudgeWord → ℕ → ℕ → List Timing → ℕ → ℕ → ℕ
allows_by JudgeWord.Density steps refinements = density_allowance
allows_by JudgeWord.Demand steps refinements = demand_allowance scale steps refinements
allows_by JudgeWord.Either steps refinements = either_allowance density_allowance (demand_allowance scale steps refinements)

abbrev pub accepts_of : NamedJudge → List Timing → Bool
accepts_of j = accepts_by j.word j.demand.steps

abbrev pub allows_of : NamedJudge → List Timing → ℕ → ℕ → ℕ
allows_of j = allows_by j.word j.demand.steps j.demand.refinements

-- which of two processors, each by its number, its spare share and its row count, a rule puts first
abbrev pub order : {R : Type 0} → (R → R → Bool) → (ℕ → ℤ → ℕ → R) → ℕ → ℤ → ℕ → ℕ → ℤ → ℕ → Bool
order first ranks p s n q t m = first (ranks p s n) (ranks q t m)

-- the smallest spare share first, or the fewest rows
abbrev pub order_of : RuleWord → ℕ → ℤ → ℕ → ℕ → ℤ → ℕ → Bool
order_of RuleWord.Best p s n q t m = int_lt s t
order_of RuleWord.Fewest p s n q t m = lighter (record { rows = n; spare = s }) (record { rows = m; spare = t })
