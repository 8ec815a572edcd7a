use Rattle.std.proofs.Common.{rules, arith, ◌≡◌, ◌<◌, ◌^◌, ◌∙◌, sum_by}
use Rattle.guest.proofs.Sums.{budgets_sum, budgets_most}
use Rattle.guest.proofs.same_period.budgets.Goals as goal

pub sum-requires-clause-fits : goal.sum-requires-clause-fits
sum-requires-clause-fits c =
    let bounded : sum_by (λ x. x.budget) c.args.list.now < 2 ^ 32 = omega (arith, budgets_most c.args.list.now) in search rules

pub returns : goal.returns
returns c =
    let chained : c.sum.result ≡ sum_by (λ x. x.budget) c.args.list.now = search rules in
    chained ∙ budgets_sum c.args.list.now
