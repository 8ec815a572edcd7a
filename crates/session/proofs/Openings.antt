-- What a first line is answered with, from what came of it. Assumes nothing.
use Rattle.std.proofs.Common.{◌≡◌, ℕ, List, Ok, Err, Result}
use Rattle.model.specs.declared.fault.LineFault.{LineFault}
use Rattle.lines.specs.declared.setup.Setup.{Setup}
use Rattle.lines.specs.declared.setup.OpeningFault.{OpeningFault}
use Rattle.lines.specs.Setups.{setup_of}
use Rattle.session.specs.declared.first.Start.{Start}
use Rattle.session.specs.declared.first.First.{First}
use Rattle.session.specs.Opened.{setup_text, first_text, Read, Comes, said}

-- of a line that was refused
refused : (r : Result Setup LineFault) (fault : OpeningFault) → Read r (Err fault) → said (First.Refused fault) ≡ setup_text r
refused (Ok s) (OpeningFault.Setup fault) is = rw is
refused (Ok s) (OpeningFault.Line fault) is = elim is [ ]
refused (Err fault) other is = cc

-- of one that a board is to be set up for
board : (r : Result Setup LineFault) (start : Start) → Read r (Ok start) → said (First.Board start) ≡ setup_text r
board (Ok s) start is = rw (is.0, is.1.processors)
board (Err fault) start is = cc

pub said_first : (line : List ℕ) (first : First) → Comes line first → said first ≡ first_text line
said_first line First.Wait is = rw is
said_first line (First.Refused fault) is = rw is.0 (refused (setup_of line) fault is.1)
said_first line (First.Board start) is = rw is.0 (board (setup_of line) start is.1)
