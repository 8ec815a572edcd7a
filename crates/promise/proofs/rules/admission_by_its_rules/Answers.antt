use Rattle.board.specs.Admit.{admitted, after}
use Rattle.promise.proofs.Admissions.{admits_so}
use Rattle.promise.proofs.Unique.{admits_unique}
use Rattle.promise.proofs.rules.admission_by_its_rules.Goals as goal

pub returns : goal.returns
returns g c =
    let first = g.P.Rank.Rank.first in
    let ranks = g.P.Placement.ranks c.args.rule.now in
    let accepts = g.J.Judge.accepts c.args.judge.now in
    let allows = g.J.SizingJudge.allows c.args.judge.now in
    let chain = g.met.P.Rank.Rank.chain in
    let total = g.met.P.Rank.Rank.total in
    let capped = g.met.J.SizingJudge.capped c.args.judge.now in
    record {
      allowed = λ plan some key b d t. admits_so first ranks accepts allows plan key chain total capped some b d t;
      nothing_else = λ plan some key b d t answer last h.
          admits_unique first ranks accepts allows plan key chain g.met.P.Rank.Rank.apart b d t
          answer (admitted first ranks accepts allows plan key b d t) last (after plan (admitted first ranks accepts allows plan key b d t))
          h (admits_so first ranks accepts allows plan key chain total capped some b d t);
    }
