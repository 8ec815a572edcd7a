use Rattle.std.proofs.Common.{rules, ◌≡◌, sym, ◌∙◌}
use Rattle.std.specs.List.{reduce}
use Rattle.processor.specs.Candidate.{heads}
use Rattle.processor.specs.Rows.{rows_of}
use Rattle.processor.proofs.Heads.{heavier_of, heaviest_reduce}
use Rattle.processor.proofs.rows.Processor.heaviest_head.Goals as goal

pub returns : goal.returns
returns c =
    let rows = rows_of c.args.self.now in
    let chained : c.reduce.result ≡ reduce heavier_of (heads rows) = search rules in
    chained ∙ sym (heaviest_reduce rows)
