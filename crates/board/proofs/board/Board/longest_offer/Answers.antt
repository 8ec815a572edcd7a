use Rattle.std.proofs.Common.{◌≡◌, ℕ, ◌+◌, ◌<◌, [], map, length, get_or, vec_items, sym, ap, ◌∙◌, arith}
use Rattle.std.proofs.lemmas.List.{length-map, at_drop_all}
use Rattle.processor.specs.Rows.{rows_of}
use Rattle.board.specs.Plan.{plan}
use Rattle.board.specs.Tail.{unless_beside, found_offer, offer_at, longest}
use Rattle.board.specs.Place.{used}
use Rattle.processor.specs.Taking.{offers}
use Rattle.processor.proofs.Places.{read_map}
use Rattle.board.proofs.Tails.{longer_within, longest_more}
use Rattle.board.proofs.board.Board.longest_offer.Goals as goal

pub loop-i-preserved : goal.loop-i-preserved
loop-i-preserved g c =
    let b = c.args.self.now in
    let offer = offer_at (g.J.SizingJudge.allows b.judge) c.args.cuts.now c.args.period c.args.cap in
    let allows = g.J.SizingJudge.allows b.judge in let t = c.args.period in let cap = c.args.cap in
    let i = c.loop-i.i in
    let items = c.deref-processor-items.result.now in
    let budget = c.offer-budget.result in
    let same : items ≡ vec_items b.plan.processors = c.deref-processor-items.ensures.value in
    let in-plan : i < length (plan b) = omega (arith, ap length same, length-map (vec_items b.plan.processors) rows_of) in
    let here : rows_of c.processor-item.result ≡ get_or (plan b) i []
    = read_map rows_of items i c.processor-item.result [] (omega arith) c.processor-item.is ∙ ap (λ l. get_or (map rows_of l) i []) same in
    let asked : budget ≡ offer (i + 1) (get_or (plan b) i [])
    = c.offer-budget.ensures.value
    ∙ ap (λ beside. unless_beside beside (offers allows (rows_of c.processor-item.result) t cap)) c.used.ensures
    ∙ ap (λ rows. unless_beside (used c.args.cuts.now (i + 1)) (offers allows rows t cap)) here in (
      longest_more offer (plan b) i budget (found_offer c.loop-i.best) (found_offer c.longer-best.result) (longest offer 1 (plan b) (0, 0)) in-plan
          asked (sym c.longer-best.ensures) c.loop-i.invariant.0,
      omega (
        arith,
        ap (λ (q : ℕ × ℕ). q.1) c.longer-best.ensures,
        longer_within (i + 1) budget cap (found_offer c.loop-i.best) c.offer-budget.ensures.bound c.loop-i.invariant.1,
      ),
    )

pub returns : goal.returns
returns g c =
    let b = c.args.self.now in
    let offer = offer_at (g.J.SizingJudge.allows b.judge) c.args.cuts.now c.args.period c.args.cap in
    record {
      value = sym (at_drop_all (λ l. longest offer (c.loop-i.i + 1) l (found_offer c.loop-i.best)) (plan b) c.loop-i.i
          (omega (arith, ap length c.deref-processor-items.ensures.value, length-map (vec_items b.plan.processors) rows_of))) ∙ c.loop-i.invariant.0;
      bound = c.loop-i.invariant.1;
    }
