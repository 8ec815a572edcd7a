use Rattle.std.proofs.Common.{◌≡◌, get_or, ◌∙◌, subst, arith}
use Rattle.board.specs.Plan.{plan}
use Rattle.exports.specs.Boards.{withdrawing}
use Rattle.exports.proofs.Counting.{count_more, count_all}
use Rattle.exports.proofs.withdrawing.withdraw_all.Goals as goal

pub loop-key-preserved : goal.loop-key-preserved
loop-key-preserved g c =
    let inv = c.loop-key.invariant in
    let said = c.withdraw_one-count.ensures in
    let keys = c.args.keys.now in
    let i = c.loop-key.key-index in
    let before = plan c.loop-key.board in (
      count_more (withdrawing (g.J.Judge.accepts c.args.board.now.judge)) keys i c.loop-key.count _ 0 c.loop-key-test.true before
          (plan c.withdraw_one-count.new.board) c.withdraw_one-count.result inv.0
          (subst (λ j. c.withdraw_one-count.result ≡ (withdrawing (g.J.Judge.accepts j) before (get_or keys i 0)).0) inv.2 said.value)
          (subst (λ j. plan c.withdraw_one-count.new.board ≡ (withdrawing (g.J.Judge.accepts j) before (get_or keys i 0)).1) inv.2 said.after),
      omega (arith, inv.1, said.bound),
      said.judge ∙ inv.2,
    )

pub returns : goal.returns
returns g c =
    count_all (withdrawing (g.J.Judge.accepts c.args.board.now.judge)) c.args.keys.now c.loop-key.key-index c.loop-key.count _
    c.loop-key-test.false (plan c.loop-key.board) c.loop-key.invariant.0
