use Rattle.std.proofs.Common.{rules, tests, ◌≡◌, ◌<◌, [], ◌∷◌, ◌++◌, length, ap, ◌∙◌, arith}
use Rattle.std.proofs.lemmas.Iterator.{YieldsList-from_slice, YieldsList-from_map}
use Rattle.std.proofs.lemmas.Iterator.Consumers.{YieldsList-at, YieldsList-from_filter}
use Rattle.model.specs.Row.{timings}
use Rattle.processor.specs.Few.{held}
use Rattle.processor.specs.Rows.{rows_of}
use Rattle.processor.specs.Gathering.{other, others}
use Rattle.processor.proofs.Ends.{pushed_room}
use Rattle.processor.proofs.Gathering.{few_left}
use Rattle.processor.proofs.Collecting.{collected_all}
use Rattle.processor.proofs.rows.Processor.asked_instead.Goals as goal

pub returns : goal.returns
returns c =
    let rows = rows_of c.args.self.now in let key = c.args.key in
    let list = held c.collected-list.result in
    let few = few_left key rows in
    let all : list ≡ timings (others key rows) =
    collected_all 33 list c.collected-list.ensures
    (YieldsList-from_map _ (λ r. r.timing)
    (YieldsList-at c.map.ensures.source
    (YieldsList-from_filter _ (other key) (YieldsList-from_slice rows cc) c.filter-others.ensures.closure (λ x r q k. search (rules, tests))))
    c.map.ensures.closure (λ x r q k. search (rules, tests)))
    (omega (arith, few)) in
    let room : length list < 33 = omega (arith, ap length all, few) in
    c.push.ensures.after ∙ pushed_room 33 list c.args.timing room ∙ ap (λ l. l ++ (c.args.timing ∷ [])) all
