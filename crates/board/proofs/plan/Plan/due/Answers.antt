use Rattle.std.proofs.Common.{rules, arith, ◌≡◌, ◌<◌, ◌^◌, ap, ◌∙◌, map, sum_by}
use Rattle.processor.specs.Rows.{rows_of}
use Rattle.model.specs.Row.{due}
use Rattle.processor.specs.Gathering.{sum_on}
use Rattle.board.specs.Withdraw.{sum_over}
use Rattle.board.proofs.Walks.{due_most, sums_most, sums_over}
use Rattle.board.proofs.plan.Plan.due.Goals as goal

pub sum-requires-clause-fits : goal.sum-requires-clause-fits
sum-requires-clause-fits c =
    let bounded : sum_by (λ p. sum_on due c.args.key (rows_of p)) c.deref.result.now < 2 ^ 32
    = omega (arith, sums_most due due_most c.args.key c.deref.result.now) in search rules

pub returns : goal.returns
returns c =
    let chained : c.sum.result ≡ sum_by (λ p. sum_on due c.args.key (rows_of p)) c.deref.result.now = search rules in
    chained ∙ sums_over due due_most c.args.key c.deref.result.now
    ∙ ap (λ l. sum_over due c.args.key (map rows_of l)) c.deref.ensures.value
