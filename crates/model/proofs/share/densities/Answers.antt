use Rattle.std.proofs.Common.{rules, ◌≡◌, ◌∙◌, sum_by}
use Rattle.model.specs.Scale.{scale}
use Rattle.model.specs.Share.{density}
use Rattle.model.proofs.Sums.{densities_sum}
use Rattle.model.proofs.share.densities.Goals as goal

pub returns : goal.returns
returns c =
    let chained : c.sum.result ≡ sum_by (density scale) c.args.list.now = search rules in
    chained ∙ densities_sum scale c.args.list.now
