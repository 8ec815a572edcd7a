use Rattle.std.proofs.Common.{string_bytes, ap, ◌∙◌}
use Rattle.std.proofs.lemmas.List.{take_all}
use Rattle.benchlines.specs.Hex.{digits_of}
use Rattle.benchlines.proofs.Hexes.{pushed_more}
use Rattle.benchlines.proofs.hex.encode.Goals as goal

pub loop-byte-preserved : goal.loop-byte-preserved
loop-byte-preserved c =
    pushed_more c.args.bytes.now c.loop-byte.byte-index (string_bytes c.loop-byte.text) (string_bytes c.push.new.self)
    (string_bytes c.push-in-loop-byte.new.self) _ _ c.digit.result c.digit-in-loop-byte.result
    c.loop-byte-test.true c.loop-byte.invariant
    c.in_ok-push.ensures.bytes (c.push.ensures.ascii c.digit.ensures.ascii) c.digit.ensures.digit
    c.in_ok-push-2.ensures.bytes (c.push-in-loop-byte.ensures.ascii c.digit-in-loop-byte.ensures.ascii) c.digit-in-loop-byte.ensures.digit

pub returns : goal.returns
returns c = c.loop-byte.invariant ∙ ap digits_of (take_all c.loop-byte.byte-index c.args.bytes.now c.loop-byte-test.false)
