use Rattle.std.proofs.Common.{rules, ◌≡◌, eqb, count_by, sym, ◌∙◌}
use Rattle.placement.proofs.Orders.{times_count}
use Rattle.placement.proofs.order.Order.times.Goals as goal

pub returns : goal.returns
returns c =
    let chained : c.count.result ≡ count_by (λ x. eqb x c.args.processor) c.args.self.now.processors = search rules in
    chained ∙ sym (times_count c.args.processor c.args.self.now.processors)
