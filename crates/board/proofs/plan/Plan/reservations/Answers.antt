use Rattle.std.proofs.Common.{rules, arith, ◌≡◌, ◌<◌, ◌^◌, ap, ◌∙◌, map, sum_by}
use Rattle.processor.specs.Rows.{rows_of}
use Rattle.processor.specs.Keys.{owners}
use Rattle.board.specs.Keys.{reservations}
use Rattle.board.proofs.Walks.{owners_sum, owners_most}
use Rattle.board.proofs.plan.Plan.reservations.Goals as goal

pub sum-requires-clause-fits : goal.sum-requires-clause-fits
sum-requires-clause-fits c =
    let bounded : sum_by (λ p. owners (rows_of p)) c.deref.result.now < 2 ^ 64 = omega (arith, owners_most c.deref.result.now) in search rules

pub returns : goal.returns
returns c =
    let chained : c.sum.result ≡ sum_by (λ p. owners (rows_of p)) c.deref.result.now = search rules in
    chained ∙ owners_sum c.deref.result.now ∙ ap (λ l. reservations (map rows_of l)) c.deref.ensures.value
