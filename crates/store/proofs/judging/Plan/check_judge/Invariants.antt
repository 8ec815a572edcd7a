use Rattle.std.proofs.Common.{◌≡◌, ◌+◌, map, drop}
use Rattle.processor.specs.Few.{held}
use Rattle.store.specs.Judged.{judge_fault}
use Rattle.store.proofs.judging.Plan.check_judge.Given as goal

abbrev pub invariant-loop-i : goal.invariant-loop-i
invariant-loop-i g l =
    judge_fault (g.J.Judge.accepts l.judge) (l.i + 1) (map held (drop l.i l.rows-items))
    ≡ judge_fault (g.J.Judge.accepts l.judge) 1 (map held l.rows-items)
