-- What a first line is answered with, and what board it asks for. Assumes nothing.
use Rattle.std.specs.Prelude.{◌≡◌, ℕ, true, false, cond, List, [], Some, None, Ok, Err, Option, Result}
use Rattle.model.specs.declared.fault.LineFault.{LineFault}
use Rattle.model.specs.declared.fault.SetupFault.{SetupFault}
use Rattle.model.specs.Refusal.{setup_number, line_number}
use Rattle.lines.specs.declared.setup.Setup.{Setup}
use Rattle.lines.specs.Commands.{blank}
use Rattle.lines.specs.declared.setup.OpeningFault.{OpeningFault}
use Rattle.lines.specs.Setups.{setup_of, opening_number}
use Rattle.lines.specs.Replies.{board_line, refused_line}
use Rattle.wadispoon.specs.Sizes.{sizes_fault}
use Rattle.session.specs.declared.first.Start.{Start}
use Rattle.session.specs.declared.first.First.{First}

-- the first number of the settings that is refused
abbrev pub setup_fault : Setup → Option SetupFault
setup_fault s = sizes_fault s.processors s.steps s.refinements

-- a board of p processors, or the refusal
abbrev pub sizes_text : Option SetupFault → ℕ → List ℕ
sizes_text (Some fault) p = refused_line (setup_number fault)
sizes_text None p = board_line p

abbrev pub setup_text : Result Setup LineFault → List ℕ
setup_text (Ok s) = sizes_text (setup_fault s) s.processors
setup_text (Err fault) = refused_line (line_number fault)

-- the reply to a first line
abbrev pub first_text : List ℕ → List ℕ
first_text line = cond (blank line) [] (setup_text (setup_of line))

-- the board to set up has just these settings
pub record Asks (s : Setup) (start : Start) : Type 0 where
  pub processors : start.sizes.processors ≡ s.processors
  pub steps : start.sizes.demand.steps ≡ s.steps
  pub refinements : start.sizes.demand.refinements ≡ s.refinements
  pub judge : start.judge ≡ s.judge
  pub rule : start.rule ≡ s.rule

-- the settings are refused exactly where the answer says so, with the first fault
abbrev pub Begun : Setup → Result Start OpeningFault → Type 0
Begun s (Ok start) = (setup_fault s ≡ None) × Asks s start
Begun s (Err (OpeningFault.Setup fault)) = setup_fault s ≡ Some fault
Begun s (Err (OpeningFault.Line fault)) = ⊥

abbrev pub Read : Result Setup LineFault → Result Start OpeningFault → Type 0
Read (Ok s) answer = Begun s answer
Read (Err fault) answer = answer ≡ Err (OpeningFault.Line fault)

-- what comes of a first line: a blank one is passed over
abbrev pub Comes : List ℕ → First → Type 0
Comes line First.Wait = blank line ≡ true
Comes line (First.Refused fault) = (blank line ≡ false) × Read (setup_of line) (Err fault)
Comes line (First.Board start) = (blank line ≡ false) × Read (setup_of line) (Ok start)

abbrev pub Opened : List ℕ → Result (First × ℕ) LineFault → Type 0
Opened line (Err fault) = Unit {0}
Opened line (Ok answer) = Comes line answer.0

-- the reply to what came
abbrev pub said : First → List ℕ
said First.Wait = []
said (First.Refused fault) = refused_line (opening_number fault)
said (First.Board start) = board_line start.sizes.processors

-- the length of the reply
abbrev pub ended : Result (First × ℕ) LineFault → Result ℕ LineFault
ended (Ok answer) = Ok answer.1
ended (Err fault) = Err fault
