use Rattle.std.proofs.Common.{◌≡◌, length, vec_items, refl, arith}
use Rattle.std.proofs.lemmas.List.{length-map}
use Rattle.std.proofs.lemmas.Result.{err_from_is_err_and}
use Rattle.processor.specs.Rows.{rows_of}
use Rattle.board.specs.Plan.{plan}
use Rattle.store.specs.InPlace.{all_held}
use Rattle.store.proofs.Loads.{loaded_refused, loaded_keys, loaded_judge, loaded_all}
use Rattle.store.proofs.Meaning.{means, stored_keyed}
use Rattle.store.proofs.Only.{loads_only}
use Rattle.store.proofs.load.load.Goals as goal

pub returns-in_err-plan : goal.returns-in_err-plan
returns-in_err-plan g c =
    let p = err_from_is_err_and c.from_residual.result c.from_residual.ensures.1 in
    let b = c.args.board.now in
    let n : length (plan b) ≡ c.len.result = omega (arith, length-map (vec_items b.plan.processors) rows_of) in
    let done = loaded_refused (g.J.Judge.accepts b.judge) c.args.image.now (plan b) c.len.result n _ c.in_err-plan.ensures in
    rw (p.1, p.2)
    record {
      loaded = done;
      meant = means (g.J.Judge.accepts b.judge) c.args.image.now (plan b) _ _ done;
      only = loads_only (g.J.Judge.accepts b.judge) c.args.image.now (plan b) _ _ done;
      judge = refl;
      rule = refl;
    }

pub check_keys-requires : goal.check_keys-requires
check_keys-requires g c = stored_keyed c.len.result c.args.image.now (all_held c.in_ok-plan.plan) c.in_ok-plan.ensures.0

pub returns-in_err-check_keys : goal.returns-in_err-check_keys
returns-in_err-check_keys g c =
    let p = err_from_is_err_and c.from_residual-in_err-check_keys.result c.from_residual-in_err-check_keys.ensures.1 in
    let b = c.args.board.now in
    let n : length (plan b) ≡ c.len.result = omega (arith, length-map (vec_items b.plan.processors) rows_of) in
    let done =
    loaded_keys (g.J.Judge.accepts b.judge) c.args.image.now (plan b) c.len.result n (all_held c.in_ok-plan.plan)
    c.in_ok-plan.ensures.0 _ c.check_keys.result c.check_keys.ensures c.in_err-check_keys.was in
    rw (p.1, p.2)
    record {
      loaded = done;
      meant = means (g.J.Judge.accepts b.judge) c.args.image.now (plan b) _ _ done;
      only = loads_only (g.J.Judge.accepts b.judge) c.args.image.now (plan b) _ _ done;
      judge = refl;
      rule = refl;
    }

pub returns-in_err-check_judge : goal.returns-in_err-check_judge
returns-in_err-check_judge g c =
    let p = err_from_is_err_and c.from_residual-in_err-check_judge.result c.from_residual-in_err-check_judge.ensures.1 in
    let b = c.args.board.now in
    let n : length (plan b) ≡ c.len.result = omega (arith, length-map (vec_items b.plan.processors) rows_of) in
    let done =
    loaded_judge (g.J.Judge.accepts b.judge) c.args.image.now (plan b) c.len.result n (all_held c.in_ok-plan.plan)
    c.in_ok-plan.ensures.0 _ c.check_keys.result c.check_keys.ensures c.in_ok-check_keys.was
    _ c.check_judge.result c.check_judge.ensures c.in_err-check_judge.was in
    rw (p.1, p.2)
    record {
      loaded = done;
      meant = means (g.J.Judge.accepts b.judge) c.args.image.now (plan b) _ _ done;
      only = loads_only (g.J.Judge.accepts b.judge) c.args.image.now (plan b) _ _ done;
      judge = refl;
      rule = refl;
    }

pub returns : goal.returns
returns g c =
    let b = c.args.board.now in
    let n : length (plan b) ≡ c.len.result = omega (arith, length-map (vec_items b.plan.processors) rows_of) in
    let done =
    loaded_all (g.J.Judge.accepts b.judge) c.args.image.now (plan b) c.len.result n (all_held c.in_ok-plan.plan)
    c.in_ok-plan.ensures.0 _ c.check_keys.result c.check_keys.ensures c.in_ok-check_keys.was
    _ c.check_judge.result _ c.check_judge.ensures c.in_ok-check_judge.was c.refill.ensures.after in
    record {
      loaded = done;
      meant = means (g.J.Judge.accepts b.judge) c.args.image.now (plan b) _ _ done;
      only = loads_only (g.J.Judge.accepts b.judge) c.args.image.now (plan b) _ _ done;
      judge = refl;
      rule = refl;
    }
