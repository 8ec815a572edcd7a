use Rattle.std.proofs.Common.{Ok, Err, sym, refl, ap, ◌∙◌, arith}
use Rattle.std.proofs.lemmas.Result.{err_from_is_err_and}
use Rattle.board.specs.Plan.{plan}
use Rattle.bench.specs.Outcomes.{outcome_text}
use Rattle.bench.proofs.Images.{some_image}
use Rattle.bench.proofs.Loading.{some_read, load_none, load_some}
use Rattle.bench.proofs.acting.load_digits.Goals as goal

pub returns-in_err-length-clause-loaded : goal.returns-in_err-length-clause-loaded
returns-in_err-length-clause-loaded g c =
    let before = plan c.args.board.now in
    let p = err_from_is_err_and c.from_residual.result c.from_residual.ensures.1 in
    load_none (outcome_text before c.from_residual.result) (g.J.Judge.accepts c.args.board.now.judge) c.args.digits.now before
    c.decode_any.result c.in_err-length.field-0.0 c.requires c.decode_any.ensures.value (sym c.in_err-length.was ∙ c.ok_or.ensures.value)
    (ap (outcome_text before) (p.1 ∙ ap Err p.2))

pub slice_bounds-load-end : goal.slice_bounds-load-end
slice_bounds-load-end g c =
    omega (
      arith,
      (some_image c.args.digits.now 6000 c.in_ok-length.length
          (some_read c.decode_any.result c.in_ok-length.length (sym c.in_ok-length.was ∙ c.ok_or.ensures.value) ∙ c.decode_any.ensures.value)).2,
    )

pub returns-in_err-load-clause-loaded : goal.returns-in_err-load-clause-loaded
returns-in_err-load-clause-loaded g c =
    let after = plan c.load.new.board in
    let p = err_from_is_err_and c.from_residual-in_err-load.result c.from_residual-in_err-load.ensures.1 in
    load_some (outcome_text after c.from_residual-in_err-load.result) (g.J.Judge.accepts c.args.board.now.judge) c.args.digits.now
    (plan c.args.board.now) after (Err c.in_err-load.field-0.0) c.decode_any.result c.in_ok-length.length _ _ c.decode_any.new.bytes
    c.decode_any.ensures.value (sym c.in_ok-length.was ∙ c.ok_or.ensures.value) c.decode_any.ensures.after c.in_err-load.ensures.loaded
    (ap (outcome_text after) (p.1 ∙ ap Err p.2))

pub returns-clause-loaded : goal.returns-clause-loaded
returns-clause-loaded g c =
    load_some _ (g.J.Judge.accepts c.args.board.now.judge) c.args.digits.now (plan c.args.board.now) (plan c.load.new.board)
    (Ok c.in_ok-load.field-0) c.decode_any.result c.in_ok-length.length _ _ c.decode_any.new.bytes
    c.decode_any.ensures.value (sym c.in_ok-length.was ∙ c.ok_or.ensures.value) c.decode_any.ensures.after c.in_ok-load.ensures.loaded refl
