use Rattle.std.proofs.Common.{◌≡◌, ◌<◌, ◌≤◌, true, false, List, [], ◌∷◌, ◌++◌, length, get_or, Some, Ok, vec_items, sym, refl, ap, ◌∙◌, subst, arith, rules}
use Rattle.model.specs.Row.{timings}
use Rattle.model.specs.Limits.{Timed}
use Rattle.model.specs.declared.row.Kind.{Kind}
use Rattle.model.specs.declared.row.Row.{Row}
use Rattle.processor.specs.Rows.{rows_of}
use Rattle.board.specs.Plan.{lists}
use Rattle.processor.specs.Gathering.{candidate, others}
use Rattle.board.specs.Withdraw.{whole, regrouped, gather}
use Rattle.processor.proofs.Places.{read_map}
use Rattle.board.proofs.Timed.{timed_ok}
use Rattle.processor.proofs.Ends.{added_room}
use Rattle.processor.proofs.Gathering.{room_left}
use Rattle.board.proofs.Gathering.{without_at, whole_is, regrouped_is, gather_asked}
use Rattle.board.proofs.plan.Plan.gather_at.Goals as goal

pub returns-then-not-fits_instead : goal.returns-then-not-fits_instead
returns-then-not-fits_instead g c =
    let before = lists c.args.self.now in let p = c.args.place in let accepts = g.J.Judge.accepts c.args.judge.now in
    let items = vec_items c.args.self.now.processors in let row = c.in_ok-row.row in let x = c.in_ok-timing.timing in
    let b = c.budget.result in let d = c.due.result in
    let at : rows_of c.index.result.now ≡ get_or before p [] = read_map rows_of items p c.index.result.now [] (omega arith) c.index.ensures in
    let at-2 : rows_of c.index-2.result.now ≡ get_or before p [] = read_map rows_of items p c.index-2.result.now [] (omega arith) c.index-2.ensures in
    let here : candidate (rows_of c.index.result.now) ≡ Some row = search rules in
    let found : candidate (get_or before p []) ≡ Some row = ap candidate (sym at) ∙ here in
    let made : c.new.result ≡ Ok x = search rules in
    let fit : whole before row ≡ Some x = whole_is before row b d (Some x) c.budget.ensures c.due.ensures
    (timed_ok b d row.timing.period x (subst (Timed b d row.timing.period) made c.new.ensures)) in
    let asked : accepts (timings (others row.key (get_or before p [])) ++ (x ∷ [])) ≡ false
    = ap (λ rows. accepts (timings (others row.key rows) ++ (x ∷ []))) (sym at-2) ∙ sym c.if-not-fits_instead.ensures in
    let e : gather accepts p before ≡ (0, before) = gather_asked accepts p before row found x false fit asked in
    record { key = sym (ap (λ r. r.0) e); after = sym (ap (λ r. r.1) e); count = refl }

pub returns : goal.returns
returns g c =
    let before = lists c.args.self.now in let p = c.args.place in let accepts = g.J.Judge.accepts c.args.judge.now in
    let items = vec_items c.args.self.now.processors in let row = c.in_ok-row.row in let x = c.in_ok-timing.timing in
    let b = c.budget.result in let d = c.due.result in
    let left = c.remove.new.self in let q = c.index_mut.result.now in
    let at : rows_of c.index.result.now ≡ get_or before p [] = read_map rows_of items p c.index.result.now [] (omega arith) c.index.ensures in
    let at-2 : rows_of c.index-2.result.now ≡ get_or before p [] = read_map rows_of items p c.index-2.result.now [] (omega arith) c.index-2.ensures in
    let here : candidate (rows_of c.index.result.now) ≡ Some row = search rules in
    let found : candidate (get_or before p []) ≡ Some row = ap candidate (sym at) ∙ here in
    let made : c.new.result ≡ Ok x = search rules in
    let fit : whole before row ≡ Some x = whole_is before row b d (Some x) c.budget.ensures c.due.ensures
    (timed_ok b d row.timing.period x (subst (Timed b d row.timing.period) made c.new.ensures)) in
    let asked : accepts (timings (others row.key (get_or before p [])) ++ (x ∷ [])) ≡ true
    = ap (λ rows. accepts (timings (others row.key rows) ++ (x ∷ []))) (sym at-2) ∙ sym c.if-not-fits_instead.ensures in
    let e : gather accepts p before ≡ (row.key, regrouped p row.key x before) = gather_asked accepts p before row found x true fit asked in
    let lt : p < length (vec_items left.processors) = omega (arith, c.remove.ensures.count) in
    let now : rows_of q ≡ get_or (lists left) p [] = read_map rows_of (vec_items left.processors) p q [] lt c.index_mut.ensures.value in
    let is : rows_of q ≡ others row.key (rows_of c.index-2.result.now)
    = now ∙ ap (λ (l : List (List Row)). get_or l p []) c.remove.ensures.after ∙ without_at row.key before p ∙ ap (others row.key) (sym at-2) in
    let yes-to : length (timings (others row.key (rows_of c.index-2.result.now)) ++ (x ∷ [])) ≤ 32
    = g.met.J.Judge.few c.args.judge.now _ (sym c.if-not-fits_instead.ensures) in
    let room : length (rows_of q) < 32 = rw is (room_left (others row.key (rows_of c.index-2.result.now)) x yes-to) in
    let new : Row = record { key = row.key; kind = Kind.Whole; timing = x } in
    let end : rows_of c.add.new.self ≡ get_or (lists left) p [] ++ (new ∷ [])
    = c.add.ensures.after ∙ added_room (rows_of q) new room ∙ ap (λ rows. rows ++ (new ∷ [])) now in
    record {
      key = sym (ap (λ r. r.0) e);
      after = regrouped_is p row.key x before (vec_items left.processors) c.add.new.self c.remove.ensures.after end ∙ sym (ap (λ r. r.1) e);
      count = c.remove.ensures.count;
    }
