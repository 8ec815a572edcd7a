use Rattle.std.proofs.Common.{◌≡◌, get_or, ◌∙◌, subst₂, arith}
use Rattle.board.specs.Plan.{plan}
use Rattle.model.specs.declared.wanted.Wanted.{Wanted}
use Rattle.exports.specs.Boards.{admitting}
use Rattle.exports.proofs.Counting.{count_more, count_all}
use Rattle.exports.proofs.admitting.admit_all.Goals as goal

abbrev none : Wanted
none = record { key = 0; budget = 0; deadline = 0; period = 0 }

pub loop-one-preserved : goal.loop-one-preserved
loop-one-preserved g c =
    let inv = c.loop-one.invariant in
    let said = c.admit_one-count.ensures in
    let all = c.args.wanted.now in
    let i = c.loop-one.one-index in
    let before = plan c.loop-one.board in
    let b = c.args.board.now in (
      count_more (admitting g.P.Rank.Rank.first (g.P.Placement.ranks b.rule) (g.J.Judge.accepts b.judge) (g.J.SizingJudge.allows b.judge)) all i
          c.loop-one.count _ none c.loop-one-test.true before (plan c.admit_one-count.new.board) c.admit_one-count.result inv.0
          (subst₂ (λ j r. c.admit_one-count.result ≡ (admitting g.P.Rank.Rank.first (g.P.Placement.ranks r) (g.J.Judge.accepts j) (g.J.SizingJudge.allows j) before (get_or all i none)).0)
          inv.2 inv.3 said.value)
          (subst₂ (λ j r. plan c.admit_one-count.new.board ≡ (admitting g.P.Rank.Rank.first (g.P.Placement.ranks r) (g.J.Judge.accepts j) (g.J.SizingJudge.allows j) before (get_or all i none)).1)
          inv.2 inv.3 said.after),
      omega (arith, inv.1, said.bound),
      said.judge ∙ inv.2,
      said.rule ∙ inv.3,
    )

pub returns : goal.returns
returns g c =
    let b = c.args.board.now in
    count_all (admitting g.P.Rank.Rank.first (g.P.Placement.ranks b.rule) (g.J.Judge.accepts b.judge) (g.J.SizingJudge.allows b.judge))
    c.args.wanted.now c.loop-one.one-index c.loop-one.count _ c.loop-one-test.false (plan c.loop-one.board) c.loop-one.invariant.0
