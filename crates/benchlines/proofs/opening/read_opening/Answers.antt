use Rattle.std.proofs.Common.{sym, ◌∙◌}
use Rattle.std.proofs.lemmas.Result.{err_from_is_err_and}
use Rattle.lines.specs.Fields.{fields}
use Rattle.benchlines.specs.Openings.{words_of}
use Rattle.benchlines.proofs.Opened.{line_refused, setup_refused, opened}
use Rattle.benchlines.proofs.opening.read_opening.Goals as goal

pub returns-in_err-settings : goal.returns-in_err-settings
returns-in_err-settings c =
    let p = err_from_is_err_and c.from_residual.result c.from_residual.ensures.1 in
    rw (p.1, p.2) (line_refused (fields c.args.line.now) (words_of c.args.line.now) _ (sym c.in_err-settings.was ∙ c.read.ensures))

pub returns-in_err-settle : goal.returns-in_err-settle
returns-in_err-settle c =
    let p = err_from_is_err_and c.from_residual-in_err-settle.result c.from_residual-in_err-settle.ensures.1 in
    rw (p.1, p.2)
    (setup_refused (fields c.args.line.now) (words_of c.args.line.now) _ _ (sym c.in_ok-settings.was ∙ c.read.ensures) c.in_err-settle.ensures)

pub returns : goal.returns
returns c =
    opened (fields c.args.line.now) (words_of c.args.line.now) _ _ (sym c.in_ok-settings.was ∙ c.read.ensures) c.in_ok-settle.ensures
