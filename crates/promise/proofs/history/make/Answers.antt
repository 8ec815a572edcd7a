use Rattle.std.proofs.Common.{◌≤◌, length, vec_items, sym, subst, arith}
use lib.ListN.{length-map}
use Rattle.processor.specs.Rows.{rows_of}
use Rattle.board.specs.Plan.{plan}
use Rattle.promise.specs.declared.call.Answer.{Answer}
use Rattle.promise.specs.History.{Derived}
use Rattle.promise.specs.Promise.{meant}
use Rattle.board.specs.Admit.{told}
use Rattle.promise.proofs.Admissions.{admits_told}
use Rattle.promise.proofs.history.make.Goals as goal

pub returns-in-Admit : goal.returns-in-Admit
returns-in-Admit g c =
    let b = c.args.board.now in
    let some : 1 ≤ length (plan b) = omega (arith, length-map (vec_items b.plan.processors) rows_of, b.plan.processors.ok.0, b.plan.some) in
    let w = c.in-Admit.wanted in
    let first = g.P.Rank.Rank.first in
    let ranks = g.P.Placement.ranks b.rule in
    let accepts = g.J.Judge.accepts b.judge in
    let allows = g.J.SizingJudge.allows b.judge in
    record {
      derived = subst (λ call. Derived (meant first ranks accepts allows) (plan b) call (Answer.Admitted c.admit.result) (plan c.admit.new.board)) (sym c.in-Admit.is)
          (admits_told first ranks accepts allows (plan b) w.key g.met.P.Rank.Rank.chain g.met.P.Rank.Rank.total (g.met.J.SizingJudge.capped b.judge) some
          w.budget w.deadline w.period (told c.admit.result) (plan c.admit.new.board) c.admit.ensures.answer c.admit.ensures.after);
      judge = c.admit.ensures.judge;
      rule = c.admit.ensures.rule;
    }

pub returns-in-Withdraw : goal.returns-in-Withdraw
returns-in-Withdraw g c =
    let b = c.args.board.now in
    record {
      derived = subst (λ call. Derived (meant g.P.Rank.Rank.first (g.P.Placement.ranks b.rule) (g.J.Judge.accepts b.judge) (g.J.SizingJudge.allows b.judge)) (plan b) call (Answer.Withdrawn c.withdraw.result) (plan c.withdraw.new.self))
          (sym c.in-Withdraw.is) c.withdraw.ensures.rules;
      judge = c.withdraw.ensures.judge;
      rule = c.withdraw.ensures.rule;
    }

pub returns-in-Load : goal.returns-in-Load
returns-in-Load g c =
    let b = c.args.board.now in
    record {
      derived = subst (λ call. Derived (meant g.P.Rank.Rank.first (g.P.Placement.ranks b.rule) (g.J.Judge.accepts b.judge) (g.J.SizingJudge.allows b.judge)) (plan b) call (Answer.Loaded c.load.result) (plan c.load.new.board))
          (sym c.in-Load.is) (c.load.ensures.meant, c.load.ensures.loaded);
      judge = c.load.ensures.judge;
      rule = c.load.ensures.rule;
    }
