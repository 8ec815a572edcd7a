use Rattle.std.proofs.Common.{vec_items, arith}
use Rattle.std.proofs.lemmas.List.{length-map}
use Rattle.processor.specs.Rows.{rows_of}
use Rattle.board.specs.Plan.{plan}
use Rattle.store.proofs.Saves.{length_image}
use Rattle.store.proofs.save.length_of.Goals as goal

pub returns : goal.returns
returns g c =
    let b = c.args.board.now in omega (arith, length_image (plan b), length-map (vec_items b.plan.processors) rows_of, c.record_count.ensures)
