use Rattle.session.proofs.Worked.{session_shown}
use Rattle.session.proofs.examples.worked_examples_stand.Goals as goal

pub returns : goal.returns
returns c = (c.examples_stand-judges.ensures, c.examples_stand-lines.ensures, session_shown, c.one_row_stored-stored.ensures)
