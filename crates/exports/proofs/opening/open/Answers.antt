use Rattle.std.proofs.Common.{◌≡◌, [], replicate, Err, sym, ap, ◌∙◌, subst, subst₂, inr, refl, rules}
use Rattle.model.specs.Refusal.{setup_number}
use Rattle.model.specs.Scale.{scale}
use Rattle.judges.specs.Demand.{demand_yes}
use Rattle.board.specs.Plan.{plan}
use Rattle.store.specs.Load.{Loaded}
use Rattle.exports.specs.declared.refusal.Refusal.{Refusal}
use Rattle.exports.specs.Judging.{numbered}
use Rattle.exports.specs.Boards.{Opened}
use Rattle.exports.proofs.opening.open.Goals as goal

pub returns-in_err-load : goal.returns-in_err-load
returns-in_err-load c =
    let sized = c.in_ok-sizes.ensures in
    let started = c.in_ok-board.ensures in
    let fault = c.in_err-load.field-0.0 in
    let gone : c.from_residual-in_err-load.result ≡ Err (Refusal.Image fault) = search rules in
    subst (Opened c.args.setting.now c.args.image.now) (sym gone) (
    inr (
      ap (numbered setup_number) sized.0,
      inr (
        fault,
        plan c.load.new.board,
        subst₂ (λ n before. Loaded (demand_yes scale n) c.args.image.now before (Err fault) (plan c.load.new.board))
            (ap (λ j. j.steps) started.1 ∙ sized.2) (started.0 ∙ ap (λ p. replicate p []) sized.1) c.in_err-load.ensures.loaded,
        refl,
      ),
    )
    )
