use Rattle.std.proofs.Common.{◌≡◌, ◌∙◌, subst}
use Rattle.model.specs.Scale.{scale}
use Rattle.judges.specs.Demand.{demand_yes}
use Rattle.board.specs.Plan.{plan}
use Rattle.exports.specs.Boards.{count_over, withdrawing, counted}
use Rattle.exports.proofs.withdrawing.wadispoon_withdraw.Goals as goal

pub returns-in-Ok : goal.returns-in-Ok
returns-in-Ok c =
    let opened = c.in-Ok.ensures in
    let b = c.in-Ok.board in
    counted (plan b) opened.0 opened.3 c.of.ensures.refused
    (c.of.ensures.value
    ∙ subst (λ n. c.withdraw_all.result ≡ count_over (withdrawing (demand_yes scale n)) (plan b) c.args.keys.now) opened.1 c.withdraw_all.ensures)
