use Rattle.std.proofs.Common.{◌≡◌, ◌+◌, ◌<◌, true, false, [], ◌∷◌, ◌++◌, map, length, get_or, drop, vec_items, sym, ap, ◌∙◌, arith, rules}
use Rattle.std.proofs.lemmas.List.{length-map, length_push}
use Rattle.processor.specs.Rows.{rows_of}
use Rattle.board.specs.Plan.{plan}
use Rattle.processor.specs.Few.{held}
use Rattle.processor.specs.Taking.{takes, as_candidate}
use Rattle.board.specs.Place.{used, open_to, candidates}
use Rattle.processor.proofs.Places.{read_map}
use Rattle.processor.proofs.Ends.{pushed_room}
use Rattle.board.proofs.Candidates.{candidates_more, candidates_pass, candidates_all, open_asked, open_used}
use Rattle.board.proofs.board.Board.candidates.Goals as goal
use Rattle.board.proofs.board.Board.candidates.Goals.{then-not-used+then-takes, else-not-used, else-not-used-via-then-not-used+else-takes, else-not-used-via-else-not-used}

pub loop-i-preserved : goal.loop-i-preserved
loop-i-preserved g c =
    let b = c.args.self.now in let accepts = g.J.Judge.accepts b.judge in let cuts = c.args.cuts.now in let x = c.args.timing in
    let test = open_to accepts cuts x in
    let items = c.deref-processor-items.result.now in
    let i = c.loop-i.i in
    let found = held c.loop-i.found in
    let all = candidates test 1 (plan b) in
    let same : items ≡ vec_items b.plan.processors = c.deref-processor-items.ensures.value in
    let in-plan : i < length (plan b) = omega (arith, ap length same, length-map (vec_items b.plan.processors) rows_of) in
    let here : rows_of c.processor-item.result ≡ get_or (plan b) i []
    = read_map rows_of items i c.processor-item.result [] (omega arith) c.processor-item.is ∙ ap (λ l. get_or (map rows_of l) i []) same in
    elim c.if-not-used.branch [
      | then-not-used+then-takes w ↦
          let grown : held c.if-not-used.found ≡ found ++ (as_candidate (i + 1) (get_or (plan b) i []) ∷ [])
          = ap held w.found-is ∙ w.push.ensures.after ∙ pushed_room 8 found w.as_candidate.result (omega arith)
          ∙ ap (λ y. found ++ (y ∷ [])) (w.as_candidate.ensures ∙ ap (as_candidate (i + 1)) here) in
          let taken : takes accepts (rows_of c.processor-item.result) x ≡ true = search rules in
          let free : used cuts (i + 1) ≡ false = search rules in
          let chosen : test (i + 1) (get_or (plan b) i []) ≡ true
          = open_asked accepts cuts x (i + 1) (get_or (plan b) i []) free ∙ ap (λ rows. takes accepts rows x) (sym here) ∙ taken in (
            candidates_more test (plan b) i found (held c.if-not-used.found) all in-plan chosen grown c.loop-i.invariant.0,
            omega (arith, ap length grown, length_push found (as_candidate (i + 1) (get_or (plan b) i []))),
          )
      | else-not-used w ↦
          let kept : held c.if-not-used.found ≡ found = ap held w.found-is in
          let shut : test (i + 1) (get_or (plan b) i []) ≡ false = elim w.else-not-used.branch [
            | else-not-used-via-then-not-used+else-takes v ↦
                let refused : takes accepts (rows_of c.processor-item.result) x ≡ false = search rules in
                let free : used cuts (i + 1) ≡ false = search rules in
                open_asked accepts cuts x (i + 1) (get_or (plan b) i []) free ∙ ap (λ rows. takes accepts rows x) (sym here) ∙ refused
            | else-not-used-via-else-not-used v ↦
                let part : used cuts (i + 1) ≡ true = search rules in open_used accepts cuts x (i + 1) (get_or (plan b) i []) part
          ] in (
            candidates_pass test (plan b) i (held c.if-not-used.found) all in-plan shut (ap (λ l. l ++ candidates test (i + 1) (drop i (plan b))) kept ∙ c.loop-i.invariant.0),
            omega (arith, ap length kept),
          )
    ]

pub returns : goal.returns
returns g c =
    let b = c.args.self.now in
    let test = open_to (g.J.Judge.accepts b.judge) c.args.cuts.now c.args.timing in
    candidates_all test (plan b) c.loop-i.i (held c.loop-i.found) (candidates test 1 (plan b))
    (omega (arith, ap length c.deref-processor-items.ensures.value, length-map (vec_items b.plan.processors) rows_of)) c.loop-i.invariant.0
