use Rattle.std.proofs.Common.{rules, tests, ap, ◌∙◌, map}
use Rattle.std.proofs.lemmas.Iterator.{YieldsList-from_slice}
use Rattle.std.proofs.lemmas.Iterator.Search.{any_from_yields_List}
use Rattle.processor.specs.Rows.{rows_of}
use Rattle.processor.specs.Keys.{has_key}
use Rattle.board.specs.Keys.{stands}
use Rattle.board.proofs.Walks.{any_map}
use Rattle.board.proofs.plan.Plan.stands.Goals as goal

pub returns : goal.returns
returns c =
    let all = c.deref.result.now in
    any_from_yields_List (λ p. has_key c.args.key (rows_of p)) _ _ c.any.result c.any.ensures.ran (YieldsList-from_slice all cc) (λ x b q k. search (rules, tests))
    ∙ any_map rows_of (has_key c.args.key) all ∙ ap (λ l. stands c.args.key (map rows_of l)) c.deref.ensures.value
