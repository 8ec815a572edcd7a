use Rattle.std.proofs.Common.{◌≡◌, length, Ok, sym, ap, ◌∙◌, arith}
use Rattle.board.specs.Plan.{plan}
use Rattle.bench.specs.Outcomes.{outcome_text}
use Rattle.bench.proofs.Images.{field_short, line_short}
use Rattle.bench.proofs.Said.{load_is}
use Rattle.bench.proofs.acting.act.Goals as goal

pub load_digits-requires : goal.load_digits-requires
load_digits-requires g c =
    omega (
      arith,
      field_short c.args.line.now 1,
      ap length c.field.ensures,
      line_short c.args.line.now (sym c.in_ok-read.was ∙ c.read.ensures.task),
    )

pub returns-in-Load-clause-answered : goal.returns-in-Load-clause-answered
returns-in-Load-clause-answered g c =
    let after = plan c.load_digits.new.board in
    load_is (λ text. outcome_text after c.load_digits.result ≡ text) g.P.Rank.Rank.first (g.P.Placement.ranks c.args.board.now.rule)
    (g.J.Judge.accepts c.args.board.now.judge) (g.J.SizingJudge.allows c.args.board.now.judge) c.args.line.now c.field.result.now
    (plan c.args.board.now) after (ap Ok (sym c.in-Load.is) ∙ sym c.in_ok-read.was ∙ c.read.ensures.task) c.field.ensures c.load_digits.ensures.loaded
