use Rattle.std.proofs.Common.{◌≡◌, ◌+◌, [], ◌∷◌, ◌++◌, reverse, length, refl, ap, ◌∙◌, arith}
use Rattle.std.proofs.lemmas.List.{length_push, length-take}
use Rattle.model.specs.declared.row.Kind.{Kind}
use Rattle.processor.specs.Few.{held}
use Rattle.board.specs.Split.{placed, tails}
use Rattle.processor.proofs.Ends.{pushed_room}
use Rattle.board.proofs.Splits.{first_of, tails_more, tails_all}
use Rattle.board.proofs.splitting.split_rows.Goals as goal

pub loop-i-init : goal.loop-i-init
loop-i-init c = (
  refl,
  ap length (first_of (held c.new-placed.result) (held c.push.new.self) (placed c.args.key c.args.processor Kind.Head c.args.head)
      c.new-placed.ensures c.push.ensures.after),
)

pub loop-i-preserved : goal.loop-i-preserved
loop-i-preserved c =
    let rows = held c.loop-i.placed in let cut = c.served.result in
    let row = placed c.args.key cut.processor (Kind.Tail (c.loop-i.i + 1)) cut.timing in
    let more : held c.push-in-loop-i.new.self ≡ rows ++ (row ∷ [])
    = c.push-in-loop-i.ensures.after ∙ pushed_room 8 rows c.tail_row.result (omega arith) ∙ ap (λ x. rows ++ (x ∷ [])) c.tail_row.ensures in (
      tails_more c.args.key c.args.cuts.now c.loop-i.i cut rows (held c.push-in-loop-i.new.self)
          (held c.push.new.self ++ tails c.args.key 1 (reverse c.args.cuts.now)) c.loop-i-test.true c.served.ensures more c.loop-i.invariant.0,
      ap length more ∙ length_push rows row ∙ ap (λ n. n + 1) c.loop-i.invariant.1,
    )

pub invariant_of-result : goal.invariant_of-result
invariant_of-result c = record { some = omega (arith, length-take c.loop-i.placed.len c.loop-i.placed.items) }

pub returns : goal.returns
returns c =
    tails_all c.args.key c.args.cuts.now c.loop-i.i (held c.loop-i.placed)
    (held c.push.new.self ++ tails c.args.key 1 (reverse c.args.cuts.now)) c.loop-i-test.false c.loop-i.invariant.0
    ∙ ap (λ l. l ++ tails c.args.key 1 (reverse c.args.cuts.now))
    (first_of (held c.new-placed.result) (held c.push.new.self) (placed c.args.key c.args.processor Kind.Head c.args.head)
    c.new-placed.ensures c.push.ensures.after)
