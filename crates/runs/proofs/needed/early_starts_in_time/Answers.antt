use Rattle.runs.proofs.Early.{early_starts_in_time}
use Rattle.runs.proofs.needed.early_starts_in_time.Goals as goal

pub returns : goal.returns
returns c = early_starts_in_time
