use Rattle.std.proofs.Common.{◌≡◌, ◌-◌, ◌<◌, [], map, length, set, vec_items, sym, refl, ap, ◌∙◌, subst, arith}
use Rattle.std.proofs.lemmas.List.{length-map, at_drop_all}
use Rattle.processor.specs.Rows.{rows_of}
use Rattle.board.specs.Plan.{lists, append}
use Rattle.board.specs.Admit.{written, Room}
use Rattle.processor.proofs.Ends.{added_room}
use Rattle.processor.proofs.Places.{read_map}
use Rattle.board.proofs.Writes.{appended, room_here, room_after, written_more}
use Rattle.board.proofs.plan.Plan.write.Goals as goal

pub loop-placed-init : goal.loop-placed-init
loop-placed-init c =
    (subst (Room (lists c.args.self.now)) (sym c.rows-placed-items.ensures) c.requires, refl)

pub overflow_sub-placed : goal.overflow_sub-placed
overflow_sub-placed c =
    (room_here (lists c.loop-placed.self) c.rows-placed-items.result.now c.loop-placed.placed-index c.placed-item.result
    c.loop-placed-test.true c.placed-item.is c.loop-placed.invariant.0).0

pub index_mut-requires : goal.index_mut-requires
index_mut-requires c =
    let h = room_here (lists c.loop-placed.self) c.rows-placed-items.result.now c.loop-placed.placed-index c.placed-item.result
    c.loop-placed-test.true c.placed-item.is c.loop-placed.invariant.0 in
    omega (arith, h.0, h.1, length-map (vec_items c.loop-placed.self.processors) rows_of)

pub loop-placed-preserved : goal.loop-placed-preserved
loop-placed-preserved c =
    let before = lists c.loop-placed.self in
    let items = vec_items c.loop-placed.self.processors in
    let rows = c.rows-placed-items.result.now in
    let k = c.loop-placed.placed-index in
    let p = c.placed-item.result in
    let h = room_here before rows k p c.loop-placed-test.true c.placed-item.is c.loop-placed.invariant.0 in
    let in-items : p.processor - 1 < length items = omega (arith, h.0, h.1, length-map items rows_of) in
    let q = c.index_mut.result.now in
    let room : length (rows_of q) < 32
    = omega (arith, h.2, ap length (read_map rows_of items (p.processor - 1) q [] in-items c.index_mut.ensures.value)) in
    let next = map rows_of (set items (p.processor - 1) c.add.new.self) in
    let grown : next ≡ append (p.processor - 1) p.row before
    = appended items (p.processor - 1) q c.add.new.self p.row in-items c.index_mut.ensures.value
    (c.add.ensures.after ∙ added_room (rows_of q) p.row room) in (
      room_after before rows k p c.loop-placed-test.true c.placed-item.is next grown c.loop-placed.invariant.0,
      written_more before rows k p c.loop-placed-test.true c.placed-item.is next (written (lists c.args.self.now) rows) grown c.loop-placed.invariant.1,
    )

pub returns : goal.returns
returns c =
    sym (at_drop_all (written (lists c.loop-placed.self)) c.rows-placed-items.result.now c.loop-placed.placed-index c.loop-placed-test.false)
    ∙ c.loop-placed.invariant.1 ∙ ap (written (lists c.args.self.now)) c.rows-placed-items.ensures
