use Rattle.std.proofs.Common.{map, set, sym, refl, ap, ◌∙◌, arith}
use Rattle.std.proofs.lemmas.List.{map-set, length-map, with_items_is}
use Rattle.std.proofs.lemmas.List.Edits.{map_over_more}
use Rattle.processor.specs.Rows.{rows_of}
use Rattle.processor.specs.Gathering.{others}
use Rattle.board.specs.Withdraw.{without}
use Rattle.processor.proofs.Places.{read_map}
use Rattle.board.proofs.Gathering.{map_over_all}
use Rattle.board.proofs.plan.Plan.remove.Goals as goal

pub loop-processor-preserved : goal.loop-processor-preserved
loop-processor-preserved c =
    let key = c.args.key in let ps = c.deref_mut-processor-items.result.now in
    let items = c.loop-processor.processor-items in let i = c.loop-processor.processor-index in let x = c.processor-item.result in
    map-set rows_of items i c.remove.new.self
    ∙ ap (set (map rows_of items) i) (c.remove.ensures ∙ ap (λ y. others key (rows_of y)) (sym c.processor-item.is))
    ∙ map_over_more (others key) (map rows_of ps) (map rows_of items) i (rows_of x) (omega (arith, length-map ps rows_of)) c.loop-processor.invariant
    (read_map rows_of items i x (rows_of x) (omega arith) c.processor-item.is)

pub returns : goal.returns
returns c =
    let key = c.args.key in let ps = c.deref_mut-processor-items.result.now in
    record {
      after = ap (map rows_of) (with_items_is c.args.self.now.processors c.loop-processor.processor-items (omega arith))
          ∙ c.loop-processor.invariant
          ∙ map_over_all (others key) (map rows_of ps) c.loop-processor.processor-index (omega (arith, length-map ps rows_of))
          ∙ ap (λ l. without key (map rows_of l)) c.deref_mut-processor-items.ensures.value;
      count = refl;
    }
