use Rattle.std.proofs.Common.{rules, tests, eqb}
use Rattle.std.proofs.lemmas.Iterator.{YieldsList-from_slice}
use Rattle.std.proofs.lemmas.Iterator.Search.{any_from_yields_List}
use Rattle.board.proofs.placing.used.Goals as goal

pub returns : goal.returns
returns c =
    any_from_yields_List (λ cut. eqb cut.processor c.args.processor) _ _ c.any.result c.any.ensures.ran (YieldsList-from_slice c.args.cuts.now cc) (λ x b q k. search (rules, tests))
