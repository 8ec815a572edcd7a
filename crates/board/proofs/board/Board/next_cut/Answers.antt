use Rattle.std.proofs.Common.{◌≡◌, ◌-◌, sym, ap, ◌∙◌}
use Rattle.board.specs.Plan.{plan}
use Rattle.board.specs.Tail.{found_offer, cut_off, tail_search}
use Rattle.board.proofs.Tails.{cut_made}
use Rattle.board.proofs.board.Board.next_cut.Goals as goal

pub returns : goal.returns
returns g c =
    let head = c.args.head in let offer = c.in_ok-offer.offer in let tail = c.tail_of.ensures in let rest = c.rest_of.ensures in
    let found : tail_search (g.J.SizingJudge.allows c.args.self.now.judge) (plan c.args.self.now) c.args.cuts.now head.period (head.budget - 1) ≡ (offer.processor, offer.budget)
    = sym c.longest_offer.ensures.value ∙ ap found_offer c.in_ok-offer.was in
    sym (cut_made head offer.processor offer.budget c.tail_of.result c.rest_of.result offer.some tail.0 tail.1 tail.2 rest.0 rest.1 rest.2)
    ∙ ap (λ o. cut_off head o.0 o.1) (sym found)
