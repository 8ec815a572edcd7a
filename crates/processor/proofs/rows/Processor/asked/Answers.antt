use Rattle.std.proofs.Common.{◌<◌, [], ◌∷◌, ◌++◌, length, ap, ◌∙◌, arith}
use Rattle.std.proofs.lemmas.List.{length-map}
use Rattle.processor.specs.Few.{held}
use Rattle.processor.specs.Rows.{rows_of}
use Rattle.processor.proofs.Ends.{pushed_room}
use Rattle.processor.proofs.rows.Processor.asked.Goals as goal

pub returns : goal.returns
returns c =
    let list = held c.timings-list.result in
    let room : length list < 33
    = omega (arith, ap length c.timings-list.ensures, length-map (rows_of c.args.self.now) (λ r. r.timing)) in
    c.push.ensures.after ∙ pushed_room 33 list c.args.timing room
    ∙ ap (λ l. l ++ (c.args.timing ∷ [])) c.timings-list.ensures
