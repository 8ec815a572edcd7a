use Rattle.std.proofs.Common.{◌≡◌, ◌+◌, ◌-◌, length}
use Rattle.board.specs.Plan.{plan}
use Rattle.processor.specs.Few.{held}
use Rattle.board.specs.Place.{place}
use Rattle.board.specs.Tail.{next_cut}
use Rattle.board.specs.Split.{split}
use Rattle.board.proofs.board.Board.split.Given as goal

-- what is left to try gives what was to be tried at the start, and each turn sets one tail
abbrev pub invariant-loop : goal.invariant-loop
invariant-loop g l =
    (split l.key
    (place g.P.Rank.Rank.first (g.P.Placement.ranks l.self.rule) (g.J.Judge.accepts l.self.judge) (plan l.self))
    (next_cut (g.J.SizingJudge.allows l.self.judge) (plan l.self))
    (length (plan l.self) - l.counter) (held l.cuts) l.head
    ≡ split l.key
    (place g.P.Rank.Rank.first (g.P.Placement.ranks l.self.rule) (g.J.Judge.accepts l.self.judge) (plan l.self))
    (next_cut (g.J.SizingJudge.allows l.self.judge) (plan l.self))
    (length (plan l.self) - 1) (held l.initial.cuts) l.initial.head)
    × (length (held l.cuts) + 1 ≡ l.counter)
