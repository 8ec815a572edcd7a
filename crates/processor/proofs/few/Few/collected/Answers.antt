use Rattle.std.proofs.Common.{take, ap, ◌∙◌, sym}
use Rattle.std.proofs.iter.runs.Made.{run_of_exit}
use Rattle.processor.specs.Few.{held}
use Rattle.processor.proofs.Ends.{pushed_take}
use Rattle.processor.proofs.few.Few.collected.Goals as goal

pub loop-x-preserved : goal.loop-x-preserved
loop-x-preserved g c =
    pushed_take g.row.N c.loop-x.yielded c.in-Some.x (held c.loop-x.list) (held c.push.new.self) c.loop-x.invariant c.push.ensures.after

pub returns : goal.returns
returns g c =
    let run = run_of_exit g.I.Iterator.next_gives _ c.loop-x.yielded _ c.loop-x.yielded_by _ c.in-None.ensures.steps in
    (run.0, run.1 ∙ c.into_iter-x-iterator.ensures.into_iter_gives, run.2, c.loop-x.invariant ∙ ap (take g.row.N) (sym run.3.0))
