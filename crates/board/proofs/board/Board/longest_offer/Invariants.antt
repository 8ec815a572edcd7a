use Rattle.std.proofs.Common.{◌≡◌, ◌+◌, ◌≤◌, drop}
use Rattle.board.specs.Plan.{plan}
use Rattle.board.specs.Tail.{offer_at, found_offer, longest, tail_search}
use Rattle.board.proofs.board.Board.longest_offer.Given as goal

abbrev pub invariant-loop-i : goal.invariant-loop-i
invariant-loop-i g l =
    (longest (offer_at (g.J.SizingJudge.allows l.self.judge) l.cuts l.period l.cap) (l.i + 1) (drop l.i (plan l.self)) (found_offer l.best)
    ≡ tail_search (g.J.SizingJudge.allows l.self.judge) (plan l.self) l.cuts l.period l.cap)
    × ((found_offer l.best).1 ≤ l.cap)
