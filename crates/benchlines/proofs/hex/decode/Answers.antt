use Rattle.std.proofs.Common.{◌≡◌, ◌/◌, ◌++◌, length, take, drop, sym, ap, ◌∙◌, arith}
use Rattle.std.proofs.lemmas.List.{take-append-drop}
use Rattle.benchlines.specs.Hex.{bytes_of}
use Rattle.benchlines.proofs.Hexes.{all_pairs}
use Rattle.benchlines.proofs.hex.decode.Goals as goal

pub returns-clause-bytes : goal.returns-clause-bytes
returns-clause-bytes c =
    let i = c.loop-i.i in let bytes = c.loop-i.bytes in
    let all : length c.as_chunks.result.0.now ≡ i = omega arith in
    ap (λ n. take n bytes) all
    ∙ all_pairs c.args.text.now (take i bytes) _ i c.as_chunks.ensures.front c.loop-i-test.false c.loop-i.invariant.0

pub returns-clause-after : goal.returns-clause-after
returns-clause-after c =
    let text = c.args.text.now in let i = c.loop-i.i in let bytes = c.loop-i.bytes in
    let all : i ≡ length text / 2 = omega arith in
    sym (take-append-drop i bytes)
    ∙ ap (λ front. front ++ drop i bytes) (all_pairs text (take i bytes) _ i c.as_chunks.ensures.front c.loop-i-test.false c.loop-i.invariant.0)
    ∙ ap (λ rest. bytes_of text ++ rest) (c.loop-i.invariant.1 ∙ ap (λ n. drop n c.args.bytes.now) all)
