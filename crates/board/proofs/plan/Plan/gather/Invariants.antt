use Rattle.std.proofs.Common.{◌≡◌, ◌++◌, length, drop, vec_len}
use Rattle.processor.specs.Few.{held}
use Rattle.board.specs.Plan.{lists}
use Rattle.board.specs.Withdraw.{gather_from}
use Rattle.board.proofs.plan.Plan.gather.Given as goal

abbrev pub invariant-loop-place : goal.invariant-loop-place
invariant-loop-place g l =
    (held l.keys ++ (gather_from (g.J.Judge.accepts l.judge) l.place (drop l.place l.visited) (lists l.self)).0
    ≡ (gather_from (g.J.Judge.accepts l.judge) 0 l.visited (lists l.initial.self)).0)
    × ((gather_from (g.J.Judge.accepts l.judge) l.place (drop l.place l.visited) (lists l.self)).1
    ≡ (gather_from (g.J.Judge.accepts l.judge) 0 l.visited (lists l.initial.self)).1)
    × (length (held l.keys) ≡ l.place) × (vec_len l.self.processors ≡ vec_len l.initial.self.processors)
