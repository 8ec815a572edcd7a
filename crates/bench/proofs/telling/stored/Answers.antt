use Rattle.std.proofs.Common.{vec_items, refl, arith}
use Rattle.bench.proofs.Images.{saved_ok}
use Rattle.bench.proofs.telling.stored.Goals as goal

pub unwrap-length-requires : goal.unwrap-length-requires
unwrap-length-requires g c =
    let b = c.args.board.now in
    saved_ok (vec_items b.plan.processors) 4628 c.save.result (omega (arith, b.plan.eight, b.plan.processors.ok.0)) refl c.save.ensures.value
