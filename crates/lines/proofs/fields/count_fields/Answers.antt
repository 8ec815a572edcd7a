use Rattle.std.proofs.Common.{length, ap, ◌∙◌, rules}
use borrow.Author.Tests.{tests}
use Rattle.std.proofs.lemmas.Iterator.Consumers.{YieldsList-at, YieldsList-from_filter, count_from_yields_List}
use Rattle.std.proofs.lemmas.Iterator.Splits.{YieldsList-from_slice_split}
use Rattle.lines.specs.Fields.{is_space}
use Rattle.lines.proofs.Splits.{has_byte, fields_parts}
use Rattle.lines.proofs.fields.count_fields.Goals as goal

pub returns : goal.returns
returns c =
    let line = c.args.line.now in
    count_from_yields_List c.filter.result c.count.result c.count.ensures.ran
    (YieldsList-from_filter _ has_byte
    (YieldsList-at c.filter.ensures.source
    (YieldsList-from_slice_split _ is_space line c.split.ensures.rest c.split.ensures.done c.split.ensures.closure (λ x r q k. search (rules, tests))))
    c.filter.ensures.closure (λ x r q k. search (rules, tests)))
    ∙ ap length (fields_parts line)
