use Rattle.std.proofs.Common.{ap, ◌∙◌, rules}
use borrow.Author.Tests.{tests}
use Rattle.std.specs.List.{slice_get}
use Rattle.std.proofs.lemmas.Iterator.Consumers.{YieldsList-at, YieldsList-from_filter, nth_from_yields_List}
use Rattle.std.proofs.lemmas.Iterator.Splits.{YieldsList-from_slice_split}
use Rattle.lines.specs.Fields.{is_space}
use Rattle.lines.proofs.Splits.{has_byte, fields_parts}
use Rattle.lines.proofs.fields.part.Goals as goal

pub returns : goal.returns
returns c =
    let line = c.args.line.now in
    nth_from_yields_List c.nth.result c.nth.new.self c.args.place c.nth.ensures.ran
    (YieldsList-from_filter _ has_byte
    (YieldsList-at c.filter.ensures.source
    (YieldsList-from_slice_split _ is_space line c.split.ensures.rest c.split.ensures.done c.split.ensures.closure (λ x r q k. search (rules, tests))))
    c.filter.ensures.closure (λ x r q k. search (rules, tests)))
    ∙ ap (λ fs. slice_get fs c.args.place) (fields_parts line)
