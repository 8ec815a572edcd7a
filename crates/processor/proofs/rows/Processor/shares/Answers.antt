use Rattle.std.proofs.Common.{rules, tests, ◌≡◌, sum_by, sym, ◌∙◌, arith}
use Rattle.std.proofs.lemmas.Iterator.{YieldsList-from_slice}
use Rattle.std.proofs.lemmas.Iterator.Consumers.{YieldsList-at}
use Rattle.std.proofs.lemmas.Iterator.Adapters.{fits_from_length, at_most_from_yields_List}
use Rattle.model.specs.Scale.{scale}
use Rattle.model.specs.Share.{share, shares}
use Rattle.model.specs.Row.{timings}
use Rattle.model.proofs.Bounds.{share_le}
use Rattle.processor.specs.Rows.{rows_of}
use Rattle.processor.proofs.Counts.{shares_sum, shares_few}
use Rattle.processor.proofs.rows.Processor.shares.Goals as goal

pub sum-requires-clause-fits : goal.sum-requires-clause-fits
sum-requires-clause-fits c =
    fits_from_length _ _ 32 _ (at_most_from_yields_List (YieldsList-at c.map.ensures.source (YieldsList-from_slice (rows_of c.args.self.now) cc)) (omega arith))
    c.map.ensures.closure (omega arith)
    (λ x r q k. let is : r ≡ share scale x.now.timing = search (rules, tests) in (search (rules, tests), omega (arith, is, share_le scale x.now.timing)))

pub returns : goal.returns
returns c =
    let rows = rows_of c.args.self.now in
    let chained : c.sum.result ≡ sum_by (λ row. share scale row.timing) rows = search rules in
    let value : c.sum.result ≡ shares scale (timings rows) = chained ∙ sym (shares_sum rows) in
    record { value = value; bound = omega (arith, value, shares_few rows) }
