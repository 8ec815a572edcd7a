-- The number of each refusal. Assumes nothing.
use Rattle.std.specs.Prelude.{ℕ}
use Rattle.model.specs.declared.fault.SetupFault.{SetupFault}
use Rattle.model.specs.declared.fault.RequestFault.{RequestFault}
use Rattle.model.specs.declared.fault.NamingFault.{NamingFault}
use Rattle.model.specs.declared.fault.LineFault.{LineFault}

-- what the integrator is told
abbrev pub setup_number : SetupFault → ℕ
setup_number SetupFault.Processors = 1
setup_number SetupFault.Steps = 2
setup_number SetupFault.Refinements = 3
setup_number SetupFault.Order = 4

-- what is told to who wants a reservation
abbrev pub request_number : RequestFault → ℕ
request_number RequestFault.Key = 10
request_number RequestFault.Budget = 11
request_number RequestFault.Deadline = 12
request_number RequestFault.Period = 13
request_number RequestFault.Limit = 14
request_number RequestFault.Stands = 15
request_number RequestFault.Full = 16
request_number RequestFault.NoPlace = 17

-- what is told to who names a reservation or a row
abbrev pub naming_number : NamingFault → ℕ
naming_number NamingFault.Key = 20
naming_number NamingFault.Row = 21

-- what is told to who types a line
abbrev pub line_number : LineFault → ℕ
line_number LineFault.Word = 50
line_number LineFault.Fields = 51
line_number LineFault.Number = 52
line_number LineFault.Reply = 53
line_number LineFault.Long = 54
