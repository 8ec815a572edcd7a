use Rattle.std.proofs.Common.{List, [], length, get_or, replicate, vec_items, sym, refl, ap, ◌∙◌, subst, subst₂, arith, take_all}
use Rattle.std.proofs.lemmas.List.{take_more}
use Rattle.model.specs.declared.row.Row.{Row}
use Rattle.board.specs.Plan.{plan}
use Rattle.promise.specs.declared.call.Call.{Call}
use Rattle.promise.specs.declared.call.Answer.{Answer}
use Rattle.promise.specs.Meaning.{Lawful}
use Rattle.promise.specs.History.{Derived, History, begins}
use Rattle.promise.specs.Promise.{meant}
use Rattle.promise.proofs.Histories.{history_push, promised, shown}
use Rattle.promise.proofs.history.run.Goals as goal

pub loop-call-init : goal.loop-call-init
loop-call-init g c =
    let o = c.in_ok-outcome.outcome in
    let begun = c.in_ok-outcome.ensures in
    let b = o.board in (
      omega (arith, o.answers.ok.0, ap length begun.4),
      begun.5,
      refl,
      refl,
      subst (λ (said : List Answer). History (meant g.P.Rank.Rank.first (g.P.Placement.ranks b.rule) (g.J.Judge.accepts b.judge) (g.J.SizingJudge.allows b.judge)) (plan b) [] said (plan b)) (sym begun.4) begins,
    )

pub loop-call-preserved : goal.loop-call-preserved
loop-call-preserved g c =
    let b = c.in_ok-outcome.outcome.board in
    let inv = c.loop-call.invariant in
    let calls = c.args.calls.now in
    let i = c.loop-call.call-index in
    let call = get_or calls i (Call.Admit (record { key = 0; budget = 0; deadline = 0; period = 0 })) in
    let before = plan c.loop-call.outcome.board in
    let next = plan c.make-answer.new.board in
    let derived : Derived (meant g.P.Rank.Rank.first (g.P.Placement.ranks b.rule) (g.J.Judge.accepts b.judge) (g.J.SizingJudge.allows b.judge)) before call c.make-answer.result next =
    subst (λ j. Derived (meant g.P.Rank.Rank.first (g.P.Placement.ranks b.rule) (g.J.Judge.accepts j) (g.J.SizingJudge.allows j)) before call c.make-answer.result next) inv.2
    (subst (λ r. Derived (meant g.P.Rank.Rank.first (g.P.Placement.ranks r) (g.J.Judge.accepts c.loop-call.outcome.board.judge) (g.J.SizingJudge.allows c.loop-call.outcome.board.judge)) before call c.make-answer.result next) inv.3 c.make-answer.ensures.derived) in (
      omega (arith, c.push_reserved.ensures.len, inv.0),
      omega (arith, c.push_reserved.ensures.capacity, inv.1),
      c.make-answer.ensures.judge ∙ inv.2,
      c.make-answer.ensures.rule ∙ inv.3,
      subst₂ (λ (cs : List Call) (said : List Answer). History (meant g.P.Rank.Rank.first (g.P.Placement.ranks b.rule) (g.J.Judge.accepts b.judge) (g.J.SizingJudge.allows b.judge)) (plan b) cs said next)
          (sym (take_more calls i (Call.Admit (record { key = 0; budget = 0; deadline = 0; period = 0 })) c.loop-call-test.true)) (sym c.push_reserved.ensures.items) (history_push call c.make-answer.result inv.4 derived),
    )

pub returns : goal.returns
returns g c =
    let set = c.in_ok-outcome.ensures in
    let inv = c.loop-call.invariant in
    let b = c.in_ok-outcome.outcome.board in
    let j = c.args.judge in
    let rule = c.args.rule in
    let calls = c.args.calls.now in
    let said = vec_items c.loop-call.outcome.answers in
    let last = plan c.loop-call.outcome.board in
    let law : Lawful (meant g.P.Rank.Rank.first (g.P.Placement.ranks rule) (g.J.Judge.accepts j) (g.J.SizingJudge.allows j)) = record {
      sound = g.met.J.Judge.sound j;
      dense = g.met.J.Judge.dense j;
      fewer = g.met.J.Judge.fewer j;
      few = g.met.J.Judge.few j;
      capped = g.met.J.SizingJudge.capped j;
      periodic = g.met.J.SizingJudge.periodic j;
      limited = g.met.J.SizingJudge.limited j;
      roomy = g.met.J.SizingJudge.roomy j;
      taken = g.met.J.SizingJudge.taken j;
      chain = g.met.P.Rank.Rank.chain;
      apart = g.met.P.Rank.Rank.apart;
      total = g.met.P.Rank.Rank.total;
    } in
    let whole : History (meant g.P.Rank.Rank.first (g.P.Placement.ranks rule) (g.J.Judge.accepts j) (g.J.SizingJudge.allows j)) (replicate c.args.processors []) calls said last =
    subst (λ k. History (meant g.P.Rank.Rank.first (g.P.Placement.ranks rule) (g.J.Judge.accepts k) (g.J.SizingJudge.allows k)) (replicate c.args.processors []) calls said last) set.2
    (subst (λ r. History (meant g.P.Rank.Rank.first (g.P.Placement.ranks r) (g.J.Judge.accepts b.judge) (g.J.SizingJudge.allows b.judge)) (replicate c.args.processors []) calls said last) set.3
    (subst₂ (λ (from : List (List Row)) (cs : List Call). History (meant g.P.Rank.Rank.first (g.P.Placement.ranks b.rule) (g.J.Judge.accepts b.judge) (g.J.SizingJudge.allows b.judge)) from cs said last)
    set.1 (take_all c.loop-call.call-index calls c.loop-call-test.false) inv.4)) in (
      promised (meant g.P.Rank.Rank.first (g.P.Placement.ranks rule) (g.J.Judge.accepts j) (g.J.SizingJudge.allows j)) law c.args.processors calls said last set.0 whole,
      inv.2 ∙ set.2,
      inv.3 ∙ set.3,
      set.0,
      shown last,
    )
