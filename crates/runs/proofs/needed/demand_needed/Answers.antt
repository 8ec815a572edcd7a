use Rattle.runs.proofs.Together.{demand_needed}
use Rattle.runs.proofs.needed.demand_needed.Goals as goal

pub returns : goal.returns
returns c = demand_needed
