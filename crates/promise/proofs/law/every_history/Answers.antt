use Rattle.promise.specs.Meaning.{Lawful}
use Rattle.promise.specs.Promise.{meant}
use Rattle.promise.proofs.Histories.{promised}
use Rattle.promise.proofs.law.every_history.Goals as goal

pub returns : goal.returns
returns g c =
    let j = c.args.judge.now in
    let law : Lawful (meant g.P.Rank.Rank.first (g.P.Placement.ranks c.args.rule.now) (g.J.Judge.accepts j) (g.J.SizingJudge.allows j)) = record {
      sound = g.met.J.Judge.sound j;
      dense = g.met.J.Judge.dense j;
      fewer = g.met.J.Judge.fewer j;
      few = g.met.J.Judge.few j;
      capped = g.met.J.SizingJudge.capped j;
      periodic = g.met.J.SizingJudge.periodic j;
      limited = g.met.J.SizingJudge.limited j;
      roomy = g.met.J.SizingJudge.roomy j;
      taken = g.met.J.SizingJudge.taken j;
      chain = g.met.P.Rank.Rank.chain;
      apart = g.met.P.Rank.Rank.apart;
      total = g.met.P.Rank.Rank.total;
    } in
    promised (meant g.P.Rank.Rank.first (g.P.Placement.ranks c.args.rule.now) (g.J.Judge.accepts j) (g.J.SizingJudge.allows j)) law
