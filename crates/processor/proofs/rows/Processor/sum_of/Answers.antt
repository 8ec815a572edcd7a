use Rattle.std.proofs.Common.{rules, tests, ◌≡◌, sum_by, filter, refl, sym, ◌∙◌, arith}
use Rattle.std.proofs.lemmas.Iterator.{YieldsList-from_slice, YieldsList-from_map}
use Rattle.std.proofs.lemmas.Iterator.Consumers.{YieldsList-at, YieldsList-from_filter, sum_by_from_yields_List}
use Rattle.std.proofs.lemmas.Iterator.Adapters.{fits_from_length, at_most_from_yields_List, at_most_from_Filter}
use Rattle.std.proofs.lemmas.Fn.{says_at}
use Rattle.processor.specs.Rows.{rows_of}
use Rattle.processor.specs.Keys.{is_of}
use Rattle.processor.specs.Gathering.{sum_on}
use Rattle.processor.proofs.Counts.{sum_on_sum, sum_on_few}
use Rattle.processor.proofs.rows.Processor.sum_of.Goals as goal

pub sum-requires-clause-fits : goal.sum-requires-clause-fits
sum-requires-clause-fits g c =
    fits_from_length _ _ 32 _
    (at_most_from_Filter _ (at_most_from_yields_List (YieldsList-from_slice (rows_of c.args.self.now) cc) (omega arith)))
    c.map.ensures.closure (omega arith)
    (λ x r q k. let is : r ≡ g.of x.now = c.requires.1.1.0 x.now r (says_at g.F.Fn {y = x} {r = r} (search rules) refl) in (search (rules, tests), omega (arith, c.requires.1.1.1 x.now)))

pub returns : goal.returns
returns g c =
    let rows = rows_of c.args.self.now in let key = c.args.key in
    let chained : c.sum.result ≡ sum_by g.of (filter (is_of key) rows) =
    sum_by_from_yields_List g.of (filter (is_of key) rows) c.map.result c.sum.result c.sum.ensures.ran
    (YieldsList-from_map _ g.of
    (YieldsList-at c.map.ensures.source
    (YieldsList-from_filter _ (is_of key) (YieldsList-from_slice rows cc) c.filter-own.ensures.closure (λ x r q k. search (rules, tests))))
    c.map.ensures.closure (λ x r q k. let is : r ≡ g.of x.now = c.requires.1.1.0 x.now r (says_at g.F.Fn {y = x} {r = r} (search rules) refl) in search (rules, tests))) in
    let value : c.sum.result ≡ sum_on g.of key rows = chained ∙ sym (sum_on_sum g.of key rows) in
    record { value = value; bound = omega (arith, value, sum_on_few g.of c.requires.1.1.1 key rows) }
