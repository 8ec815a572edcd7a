use Rattle.std.proofs.Common.{refl}
use Rattle.runs.proofs.words.example_pieces.Goals as goal

pub returns : goal.returns
returns c = record { head_start = refl; head_due = refl; head_need = refl; tail_start = refl; tail_due = refl; tail_need = refl }
