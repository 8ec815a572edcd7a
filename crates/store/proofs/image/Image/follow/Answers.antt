use Rattle.std.proofs.Common.{◌≤◌, ◌<◌, length, sym, ◌∙◌, arith}
use Rattle.std.proofs.lemmas.Result.{err_from_is_err_and}
use Rattle.std.proofs.lemmas.Bool.{ltb-true, ltb-false}
use Rattle.processor.specs.Few.{held}
use Rattle.store.specs.Record.{next_at}
use Rattle.store.proofs.Walks.{walk_full, walk_done, walk_barred, walk_again, refused}
use Rattle.store.proofs.image.Image.follow.Goals as goal

pub returns-in_err-mark : goal.returns-in_err-mark
returns-in_err-mark c =
    let p = err_from_is_err_and c.from_residual.result c.from_residual.ensures.1 in
    let no = refused _ _ _ c.mark.result c.mark.ensures.value c.in_err-mark.was in
    rw (p.1, p.2) (
      sym c.loop-number.invariant
          ∙ walk_barred (next_at c.args.self.now.processors c.args.self.now.bytes.now) c.args.self.now.records _ c.loop-number.number
          (held c.loop-number.chain) c.loop-number.reached c.loop-number-test.true no.0,
      no.1,
    )

pub returns-then-not-push : goal.returns-then-not-push
returns-then-not-push c =
    let full : 32 ≤ length (held c.loop-number.chain) = ltb-false _ _ (sym c.push.ensures.room ∙ c.if-not-push.true) in (
      sym c.loop-number.invariant
          ∙ walk_full (next_at c.args.self.now.processors c.args.self.now.bytes.now) c.args.self.now.records _ c.loop-number.number
          (held c.loop-number.chain) c.loop-number.reached (omega arith) c.loop-number-test.true,
      c.at.ensures,
    )

pub loop-number-preserved : goal.loop-number-preserved
loop-number-preserved c =
    let few : length (held c.loop-number.chain) < 32 = ltb-true _ _ (sym c.push.ensures.room ∙ c.if-not-push.false) in
    walk_again (next_at c.args.self.now.processors c.args.self.now.bytes.now) c.args.self.now.records
    c.loop-number.number c.next-number.result (held c.loop-number.chain) (held c.push.new.self) c.loop-number.reached c.mark.new.reached _ _ _ c.mark.result
    few c.loop-number-test.true c.mark.ensures.value c.in_ok-mark.was c.mark.ensures.after (c.push.ensures.end few) c.next-number.ensures
    c.loop-number.invariant

pub returns : goal.returns
returns c =
    sym c.loop-number.invariant
    ∙ walk_done (next_at c.args.self.now.processors c.args.self.now.bytes.now) c.args.self.now.records _ c.loop-number.number
    (held c.loop-number.chain) c.loop-number.reached (omega arith)
