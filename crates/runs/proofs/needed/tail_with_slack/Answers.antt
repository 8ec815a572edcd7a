use Rattle.runs.proofs.Boards.{tail_with_slack}
use Rattle.runs.proofs.needed.tail_with_slack.Goals as goal

pub returns : goal.returns
returns c = tail_with_slack
