use Rattle.std.proofs.Common.{◌≡◌, ◌∙◌, subst₂}
use lib.Signed.{lt_z}
use Rattle.model.specs.Scale.{scale}
use Rattle.judges.specs.Allowance.{demand_allowance}
use Rattle.judges.specs.Demand.{demand_yes}
use Rattle.board.specs.Plan.{plan}
use Rattle.exports.specs.Boards.{count_over, admitting, counted}
use Rattle.exports.proofs.admitting.wadispoon_admit.Goals as goal

pub returns-in-Ok : goal.returns-in-Ok
returns-in-Ok c =
    let opened = c.in-Ok.ensures in
    let b = c.in-Ok.board in
    counted (plan b) opened.0 opened.3 c.of.ensures.refused
    (c.of.ensures.value
    ∙ subst₂ (λ n r. c.admit_all.result ≡ count_over (admitting lt_z (λ processor spare rows. spare) (demand_yes scale n) (demand_allowance scale n r)) (plan b) c.args.wanted.now)
    opened.1 opened.2 c.admit_all.ensures)
