use Rattle.std.proofs.Common.{◌≡◌, ℕ, ◌-◌, List, [], ◌∷◌, ◌++◌, length, Some, None, vec_items, Option, sym, ap, ◌∙◌, arith, rules}
use Rattle.std.proofs.lemmas.List.{length_push, length-map}
use Rattle.model.specs.declared.timing.Timing.{Timing}
use Rattle.board.specs.declared.cut.Cut.{Cut}
use Rattle.processor.specs.Rows.{rows_of}
use Rattle.board.specs.Plan.{plan}
use Rattle.processor.specs.Few.{held}
use Rattle.board.specs.Place.{place}
use Rattle.board.specs.Tail.{next_cut}
use Rattle.board.specs.Admission.{rows_found}
use Rattle.board.specs.Split.{split, split_rows}
use Rattle.processor.proofs.Ends.{pushed_room}
use Rattle.board.proofs.Splits.{split_none, split_placed, split_on}
use Rattle.board.proofs.board.Board.split.Goals as goal

pub returns-in_err-cut : goal.returns-in_err-cut
returns-in_err-cut g c =
    let b = c.args.self.now in
    let pl : List Cut → Timing → Option ℕ
    = place g.P.Rank.Rank.first (g.P.Placement.ranks b.rule) (g.J.Judge.accepts b.judge) (plan b) in
    let nx : List Cut → Timing → Option (Cut × Timing) = next_cut (g.J.SizingJudge.allows b.judge) (plan b) in
    let m : ℕ = length (plan b) in
    let none : nx (held c.loop.cuts) c.loop.head ≡ None
    = ap (λ l. nx l c.loop.head) (sym c.as_slice.ensures) ∙ sym c.next_cut.ensures ∙ c.in_err-cut.was in
    let gone : c.from_residual.result ≡ None = search rules in
    ap rows_found gone
    ∙ sym (split_none c.args.key pl nx m c.loop.counter (omega (arith, length-map (vec_items b.plan.processors) rows_of)) (held c.loop.cuts) c.loop.head none)
    ∙ c.loop.invariant.0
    ∙ ap (λ l. split c.args.key pl nx (m - 1) l c.args.newcomer) c.new-cuts.ensures

pub returns : goal.returns
returns g c =
    let b = c.args.self.now in
    let pl : List Cut → Timing → Option ℕ
    = place g.P.Rank.Rank.first (g.P.Placement.ranks b.rule) (g.J.Judge.accepts b.judge) (plan b) in
    let nx : List Cut → Timing → Option (Cut × Timing) = next_cut (g.J.SizingJudge.allows b.judge) (plan b) in
    let over : length (plan b) - c.loop.counter ≡ 0 = omega (arith, length-map (vec_items b.plan.processors) rows_of) in
    sym (ap (λ n. split c.args.key pl nx n (held c.loop.cuts) c.loop.head) over)
    ∙ c.loop.invariant.0
    ∙ ap (λ l. split c.args.key pl nx (length (plan b) - 1) l c.args.newcomer) c.new-cuts.ensures

pub split_rows-requires : goal.split_rows-requires
split_rows-requires g c =
    let cuts = held c.loop.cuts in let cut = c.in_ok-cut.cut in
    omega (
      arith,
      ap length c.as_slice-in-Some.ensures,
      ap length (c.push.ensures.after ∙ pushed_room 8 cuts cut (omega arith)),
      length_push cuts cut,
    )

pub returns-in-Some : goal.returns-in-Some
returns-in-Some g c =
    let b = c.args.self.now in
    let pl : List Cut → Timing → Option ℕ
    = place g.P.Rank.Rank.first (g.P.Placement.ranks b.rule) (g.J.Judge.accepts b.judge) (plan b) in
    let nx : List Cut → Timing → Option (Cut × Timing) = next_cut (g.J.SizingJudge.allows b.judge) (plan b) in
    let m : ℕ = length (plan b) in
    let s : Cut × Timing = (c.in_ok-cut.cut, c.in_ok-cut.rest) in
    let set : nx (held c.loop.cuts) c.loop.head ≡ Some s
    = ap (λ l. nx l c.loop.head) (sym c.as_slice.ensures) ∙ sym c.next_cut.ensures ∙ c.in_ok-cut.was in
    let grown : List Cut = held c.push.new.self in
    let more : grown ≡ held c.loop.cuts ++ (s.0 ∷ []) = c.push.ensures.after ∙ pushed_room 8 (held c.loop.cuts) s.0 (omega arith) in
    let on : pl grown s.1 ≡ Some c.in-Some.processor
    = ap (λ l. pl l s.1) (sym c.as_slice-in-loop.ensures) ∙ sym c.in-Some.ensures in
    ap Some (c.split_rows.ensures ∙ ap (split_rows c.args.key c.in-Some.processor s.1) c.as_slice-in-Some.ensures)
    ∙ sym (split_placed c.args.key pl nx m c.loop.counter (omega (arith, length-map (vec_items b.plan.processors) rows_of)) (held c.loop.cuts) c.loop.head s set grown more
    c.in-Some.processor on)
    ∙ c.loop.invariant.0
    ∙ ap (λ l. split c.args.key pl nx (m - 1) l c.args.newcomer) c.new-cuts.ensures

pub loop-preserved : goal.loop-preserved
loop-preserved g c =
    let b = c.args.self.now in
    let pl : List Cut → Timing → Option ℕ
    = place g.P.Rank.Rank.first (g.P.Placement.ranks b.rule) (g.J.Judge.accepts b.judge) (plan b) in
    let nx : List Cut → Timing → Option (Cut × Timing) = next_cut (g.J.SizingJudge.allows b.judge) (plan b) in
    let m : ℕ = length (plan b) in
    let s : Cut × Timing = (c.in_ok-cut.cut, c.in_ok-cut.rest) in
    let set : nx (held c.loop.cuts) c.loop.head ≡ Some s
    = ap (λ l. nx l c.loop.head) (sym c.as_slice.ensures) ∙ sym c.next_cut.ensures ∙ c.in_ok-cut.was in
    let grown : List Cut = held c.push.new.self in
    let more : grown ≡ held c.loop.cuts ++ (s.0 ∷ []) = c.push.ensures.after ∙ pushed_room 8 (held c.loop.cuts) s.0 (omega arith) in
    let nowhere : pl grown s.1 ≡ None
    = ap (λ l. pl l s.1) (sym c.as_slice-in-loop.ensures) ∙ sym c.place.ensures ∙ c.in_default.is in (
      sym (split_on c.args.key pl nx m c.loop.counter (omega (arith, length-map (vec_items b.plan.processors) rows_of)) (held c.loop.cuts) c.loop.head s set grown more nowhere)
          ∙ c.loop.invariant.0,
      omega (arith, ap length more, length_push (held c.loop.cuts) s.0),
    )
