use Rattle.std.proofs.Common.{◌<◌, length, take, ap, ◌∙◌, arith}
use Rattle.std.proofs.lemmas.List.{take_all, length-map, length-take}
use Rattle.model.specs.Row.{timings}
use Rattle.processor.specs.Few.{held}
use Rattle.processor.proofs.Ends.{pushed_room}
use Rattle.processor.proofs.Steps.{map_step}
use Rattle.processor.proofs.rows.Processor.timings.Goals as goal

pub loop-row-preserved : goal.loop-row-preserved
loop-row-preserved c =
    let rows = c.as_slice-row-items.result.now in let i = c.loop-row.row-index in let x = c.row-item.result in
    let list = held c.loop-row.list in
    let room : length list < 33
    = omega (arith, ap length c.loop-row.invariant, length-map (take i rows) (λ r. r.timing), length-take i rows) in
    map_step (λ r. r.timing) rows i x c.loop-row-test.true c.row-item.is list (held c.push.new.self) c.loop-row.invariant
    (c.push.ensures.after ∙ pushed_room 33 list x.timing room)

pub returns : goal.returns
returns c =
    c.loop-row.invariant
    ∙ ap timings (take_all c.loop-row.row-index c.as_slice-row-items.result.now c.loop-row-test.false ∙ c.as_slice-row-items.ensures.value)
