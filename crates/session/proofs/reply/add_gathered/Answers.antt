use Rattle.std.proofs.Common.{◌++◌, ap, ◌∙◌}
use Rattle.std.specs.List.{flat_map}
use Rattle.std.proofs.lemmas.Iterator.{YieldsList-from_slice, YieldsList-from_zip}
use Rattle.std.proofs.lemmas.Iterator.Consumers.{YieldsList-at, YieldsList-from_enumerate, YieldsList-end}
use Rattle.lines.specs.Replies.{text_of}
use Rattle.session.proofs.Gathering.{line_at, lines_gathered}
use Rattle.session.proofs.reply.add_gathered.Goals as goal

-- the loop has seen just the keys with their processors
pub returns-clause-text : goal.returns-clause-text
returns-clause-text g c =
    let keys = c.args.keys.now in let all = c.args.processors.now in
    let items = YieldsList-end
    (YieldsList-at c.into_iter-i-iterator.ensures.into_iter_gives
    (YieldsList-from_enumerate
    (YieldsList-at c.enumerate-i-items.ensures.source
    (YieldsList-from_zip
    (YieldsList-at c.zip.ensures.first (YieldsList-from_slice keys c.iter.ensures.rest))
    (YieldsList-from_slice all c.zip.ensures.second.0)))
    c.enumerate-i-items.ensures.count))
    c.loop-i.yielded _ c.loop-i.yielded_by _ c.next.new.self c.in-None.is c.next.ensures.steps in
    c.loop-i.invariant.0
    ∙ ap (λ l. text_of c.args.reply.now ++ l) (ap (flat_map line_at) items.0 ∙ lines_gathered 0 keys all)
