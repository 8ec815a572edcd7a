use Rattle.std.proofs.Common.{◌≡◌, length, vec_items, refl, ap, ◌∙◌, arith, rules}
use Rattle.std.proofs.lemmas.List.{length-map}
use Rattle.processor.specs.Rows.{rows_of}
use Rattle.board.specs.Plan.{plan}
use Rattle.store.specs.Buffer.{overwritten}
use Rattle.store.specs.Image.{image, heads_bytes}
use Rattle.store.proofs.Buffers.{length_overwritten}
use Rattle.store.proofs.Images.{length_heads}
use Rattle.store.proofs.Saves.{length_image, image_wrote}
use Rattle.store.proofs.save.put_image.Goals as goal

pub put_heads-requires : goal.put_heads-requires
put_heads-requires g c =
    let b = c.args.board.now in
    let head = c.put.ensures in
    let long = ap length head.buffer ∙ length_overwritten c.args.buffer.now 0 c.header.result (omega (arith, c.requires, length_image (plan b))) in
    omega (arith, c.requires, length_image (plan b), length-map (vec_items b.plan.processors) rows_of, long, head.at)

pub put_records-requires : goal.put_records-requires
put_records-requires g c =
    let b = c.args.board.now in
    let head = c.put.ensures in
    let heads = c.put_heads.ensures in
    let m = length-map (vec_items b.plan.processors) rows_of in
    let long = ap length head.buffer ∙ length_overwritten c.args.buffer.now 0 c.header.result (omega (arith, c.requires, length_image (plan b))) in
    let longer =
    ap length heads.buffer
    ∙ length_overwritten c.put.new.self.buffer.now c.put.new.self.at (heads_bytes 1 (plan b))
    (omega (arith, c.requires, length_image (plan b), length_heads 1 (plan b), m, long, head.at)) in
    omega (arith, c.requires, length_image (plan b), length_heads 1 (plan b), m, long, longer, head.at, heads.at)

pub returns : goal.returns
returns g c =
    let b = c.args.board.now in
    let head = c.put.ensures in
    let long = ap length head.buffer ∙ length_overwritten c.args.buffer.now 0 c.header.result (omega (arith, c.requires, length_image (plan b))) in
    let e : c.put_records.new.self.buffer.now ≡ overwritten c.args.buffer.now 0 (image (plan b)) =
    image_wrote (plan b) _ c.put.new.self c.put_heads.new.self c.put_records.new.self c.header.result c.len.result c.record_count.result c.requires refl
    c.header.ensures (omega (arith, length-map (vec_items b.plan.processors) rows_of)) c.record_count.ensures head c.put_heads.ensures c.put_records.ensures
    (omega (arith, long, head.at, c.requires, length_image (plan b))) in
    search rules
