use Rattle.std.proofs.Common.{rules, ◌≡◌, not, count_by, sym, ◌∙◌}
use Rattle.model.specs.Row.{is_tail}
use Rattle.processor.specs.Rows.{rows_of}
use Rattle.processor.proofs.Counts.{owners_count}
use Rattle.processor.proofs.rows.Processor.owners.Goals as goal

pub returns-clause-value : goal.returns-clause-value
returns-clause-value c =
    let chained : c.count.result ≡ count_by (λ row. not (is_tail row.kind)) (rows_of c.args.self.now) = search rules in
    chained ∙ sym (owners_count (rows_of c.args.self.now))
