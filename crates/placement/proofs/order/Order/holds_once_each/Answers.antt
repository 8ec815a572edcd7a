use Rattle.std.proofs.Common.{rules, ◌≡◌, ◌-◌, refl}
use Rattle.std.proofs.iter.runs.Sources.{ranges}
use Rattle.placement.proofs.Orders.{once_each_is}
use Rattle.placement.proofs.order.Order.holds_once_each.Goals as goal

pub returns : goal.returns
returns c =
    let run = c.all.ensures.runs.0 in
    once_each_is c.all.result c.args.last c.args.self.now.processors
    (λ yes k lo hi. let here : run.at (k - 1) ≡ run.at (k - 1) = refl in search (rules, ranges))
    (λ no. search (rules, ranges))
