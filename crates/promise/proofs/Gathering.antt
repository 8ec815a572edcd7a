-- A withdrawal keeps what every call keeps. Assumes nothing.
use Rattle.std.proofs.Common.{◌≡◌, ℕ, suc, ◌+◌, ◌-◌, ◌<◌, ◌≤◌, Bool, true, cond, not, eqb, List, [], ◌∷◌, ◌++◌, length, get_or, Ok, sym, refl, ap, ◌∙◌, subst, ⊎_elim, add-zero, arith, ne_eqb}
use native.Mathlib.Decide.{ℕ_discrete}
use lib.ListN.{length-map}
use Rattle.std.specs.List.{ContainsAt as Has}
use Rattle.std.proofs.ByRecursion.{has_append_right}
use Rattle.model.specs.declared.timing.Timing.{Timing}
use Rattle.model.specs.declared.row.Kind.{Kind}
use Rattle.model.specs.declared.row.Row.{Row}
use Rattle.model.specs.Row.{timings, due, is_head, is_tail}
use Rattle.runs.specs.Plan.{Reservation, sum_at, total, span, lasting}
use Rattle.processor.specs.Keys.{has_key}
use Rattle.board.specs.Keys.{reservations}
use Rattle.processor.specs.Gathering.{sum_on, others}
use Rattle.board.specs.Withdraw.{sum_over, without, regrouped}
use Rattle.processor.specs.Candidate.{Candidate, by_tail, by_head}
use Rattle.board.specs.Withdraws.{Gathers, nobody, stays, joins, Visits, done, passed, visited, Withdraws, refused, gone}
use Rattle.promise.specs.Layout.{Layout, layout}
use Rattle.promise.specs.Meaning.{Meaning, Lawful}
use Rattle.promise.specs.Plan.{Plan, On, rows_at, add}
use Rattle.promise.specs.Kept.{Lies, ComesTo, Owned, Kept, dropped}
use Rattle.promise.proofs.Lists.{has_none, has_here, has_there, has_cases, all_one, has_kept, has_of_kept}
use Rattle.promise.proofs.Rows.{length_add, rows_removed}
use Rattle.promise.proofs.Admitting.{lies_first, kept_layout}
use Rattle.promise.proofs.Removing.{on_forth, kept_removed, kept_same, same_key, removed_gone, standing_less}
use Rattle.promise.proofs.Totals.{lies_budget, lies_deadline}
use Rattle.promise.proofs.Timely.{lies_tight}
use Rattle.promise.proofs.Placing.{GoodLayout}

-- the board's sums over a key's rows are those of the runs
due_span : (row : Row) → due row ≡ span row
due_span row = by_kind row.kind
  where
    by_kind : (kind : Kind) → cond (is_tail kind) row.timing.budget row.timing.deadline ≡ lasting kind row.timing
    by_kind Kind.Whole = refl
    by_kind Kind.Head = refl
    by_kind (Kind.Tail j) = refl

sum_on_at : (f g : Row → ℕ) (k : ℕ) (rows : List Row) → ((row : Row) → f row ≡ g row) → sum_on f k rows ≡ sum_at (λ i r. cond (eqb r.key k) (g r) 0) rows
sum_on_at f g k [] same = refl
sum_on_at f g k (row ∷ rows) same = omega (arith, ap (λ n. cond (eqb row.key k) n 0) (same row), sum_on_at f g k rows same)

sum_over_total : (f g : Row → ℕ) (k : ℕ) (plan : Plan) → ((row : Row) → f row ≡ g row) → sum_over f k plan ≡ total (λ p i r. g r) k plan
sum_over_total f g k [] same = refl
sum_over_total f g k (rows ∷ plan) same = omega (arith, sum_on_at f g k rows same, sum_over_total f g k plan same)

-- a candidate stands among the rows
candidate_stands : (rows : List Row) (row : Row) → Candidate rows row → Has rows row
candidate_stands rows row (by_tail rest e) =
    (has_of_kept (λ r. is_tail r.kind) rows row (subst (λ l. Has l row) (sym e) (has_here row rest))).0
candidate_stands rows row (by_head none first) =
    (has_of_kept (λ r. is_head r.kind) rows row
    (subst (λ l. Has l row) (sym first.stands) (has_append_right first.before (row ∷ first.after) row (has_here row first.after)))).0

comes_inner : (x : Reservation) (o : Layout) → ComesTo x o → x.deadline ≤ x.period
comes_inner x (layout p t cuts) h = h.4

-- what joining a reservation on processor p says
record Joined {R : Type 0} (m : Meaning R) (p : ℕ) (plan : Plan) (k : ℕ) (after : Plan) : Type 0 where
  row : Row
  has : Has (rows_at plan p) row
  key : row.key ≡ k
  timing : Timing
  budget : timing.budget ≡ total (λ q i r. r.timing.budget) k plan
  deadline : timing.deadline ≡ total (λ q i r. span r) k plan
  period : timing.period ≡ row.timing.period
  yes_with : m.accepts (timings (others k (rows_at plan p)) ++ (timing ∷ [])) ≡ true
  is_after : after ≡ add (without k plan) (record { processor = p; row = record { key = k; kind = Kind.Whole; timing = timing } })

module _ {R : Type 0} (m : Meaning R) (law : Lawful m) (plan : Plan) (accepted : List Reservation) (kept : Kept m plan accepted) where
  -- the reservation x, of key k, gathered on p
  gathered_whole : (p : ℕ) → On plan p → (x : Reservation) → Has accepted x → (after : Plan) → Joined m p plan x.key after → Kept m after accepted
  gathered_whole p on x among after g = subst (λ q. Kept m q accepted) (sym g.is_after) (kept_same m law whole_plan (x ∷ dropped x.key accepted) added accepted kept.distinct back forth)
    where
      whole_plan : Plan
      whole_plan = add (without x.key plan) (record { processor = p; row = record { key = x.key; kind = Kind.Whole; timing = g.timing } })

      laid : (o : Layout) × Lies plan x o
      laid = all_one (λ z. (o : Layout) × Lies plan z o) accepted x kept.laid among

      good : GoodLayout m (without x.key plan) x.period x.budget x.deadline p g.timing []
      good = record {
        on = on_forth m law plan accepted kept x.key on;
        yes_with = rw (rows_removed x.key plan p on) g.yes_with;
        alone = has_none p;
        apart = tt;
        tails = tt;
        budget = add-zero g.timing.budget ∙ g.budget ∙ lies_budget plan x laid.0 laid.1;
        deadline = add-zero g.timing.deadline ∙ g.deadline ∙ lies_deadline plan x laid.0 laid.1;
        period = g.period ∙ sym (lies_tight plan x laid.0 p g.row laid.1 on g.has g.key).0;
      }

      room : reservations (without x.key plan) < 64
      room =
          let f = lies_first plan x laid.0 laid.1 in
          let a = f.1.from_one in
          let b = f.1.to_last in
          omega (arith, standing_less x.key (f.0 - 1) plan f.2.0 (omega arith) f.2.1 f.2.2 f.2.3, kept.most)

      added : Kept m whole_plan (x ∷ dropped x.key accepted)
      added = kept_layout m law (without x.key plan) (dropped x.key accepted) (kept_removed m law plan accepted kept x.key)
          x.key x.budget x.deadline x.period p g.timing []
          (removed_gone x.key plan) room (comes_inner x laid.0 laid.1.comes_to) good

      back : (z : Reservation) → Has (x ∷ dropped x.key accepted) z → Has accepted z
      back z has = ⊎_elim (λ e. subst (Has accepted) e among) (λ later. (has_of_kept (λ w. not (eqb w.key x.key)) accepted z later).0) (has_cases x (dropped x.key accepted) z has)

      forth : (z : Reservation) → Has accepted z → Has (x ∷ dropped x.key accepted) z
      forth z has = elim (ℕ_discrete z.key x.key) [
        | yes e ↦ subst (Has (x ∷ dropped x.key accepted)) (same_key accepted x z kept.distinct among has (sym e)) (has_here x (dropped x.key accepted))
        | no apart ↦ has_there x (dropped x.key accepted) z (has_kept (λ w. not (eqb w.key x.key)) accepted z has (ap not (ne_eqb z.key x.key apart)))
      ]

  kept_joined : (p k : ℕ) → On plan p → (after : Plan) → Joined m p plan k after → Kept m after accepted
  kept_joined p k on after g =
      let own = all_one (Owned accepted) (rows_at plan p) g.row (kept.owned p on) g.has in
      gathered_whole p on own.owner own.among after (subst (λ j. Joined m p plan j after) (sym (own.key ∙ g.key)) g)

  -- one step, on the processor at index p
  kept_step : (p k : ℕ) → p < length plan → (after : Plan) → Gathers m.accepts p plan k after → Kept m after accepted × (length after ≡ length plan)
  kept_step p k lt after (nobody none e same) = (subst (λ q. Kept m q accepted) (sym same) kept, ap length same)
  kept_step p k lt after (stays row candidate refuses e same) = (subst (λ q. Kept m q accepted) (sym same) kept, ap length same)
  kept_step p k lt after (joins row x candidate whole accepted-with e same) = (
    kept_joined (suc p) row.key (record { from_one = omega arith; to_last = lt }) after (record {
      row = row;
      has = subst (λ q. Has (get_or plan q []) row) (sym back) (candidate_stands (get_or plan p []) row candidate);
      key = refl;
      timing = x;
      budget = whole.budget ∙ sum_over_total (λ r. r.timing.budget) (λ r. r.timing.budget) row.key plan (λ r. refl);
      deadline = whole.deadline ∙ sum_over_total due span row.key plan due_span;
      period = whole.period;
      yes_with = subst (λ q. m.accepts (timings (others row.key (get_or plan q [])) ++ (x ∷ [])) ≡ true) (sym back) accepted-with;
      is_after = same ∙ ap (λ q. regrouped q row.key x plan) (sym back);
    }),
    ap length same ∙ ap (λ q. length (regrouped q row.key x plan)) (sym back)
        ∙ length_add (without row.key plan) (record { processor = suc p; row = record { key = row.key; kind = Kind.Whole; timing = x } }) ∙ length-map plan (others row.key),
  )
    where
      back : suc p - 1 ≡ p
      back = omega arith

module _ {R : Type 0} (m : Meaning R) (law : Lawful m) (accepted : List Reservation) where
  kept_visits : {p : ℕ} {held : List Bool} {plan after : Plan} {keys : List ℕ} → Visits m.accepts p held plan keys after
      → p + length held ≡ length plan → Kept m plan accepted → Kept m after accepted × (length after ≡ length plan)
  kept_visits done to kept = (kept, refl)
  kept_visits (passed {p = p} {held = held} {plan = plan} rest) to kept =
      kept_visits rest (let h : p + suc (length held) ≡ length plan = to in omega arith) kept
  kept_visits (visited {p = p} {k = k} {held = held} {plan = plan} {next = next} step rest) to kept =
      let h : p + suc (length held) ≡ length plan = to in
      let here = kept_step m law plan accepted kept p k (omega arith) next step in
      let later = kept_visits rest (omega (arith, here.1)) here.0 in
      (later.0, later.1 ∙ here.1)

module _ {R : Type 0} (m : Meaning R) (law : Lawful m) where
  pub kept_withdraws : (plan : Plan) (accepted : List Reservation) (k : ℕ) (keys : List ℕ) (after : Plan) → Kept m plan accepted → Withdraws m.accepts k plan (Ok keys) after
      → Kept m after (dropped k accepted) × (length after ≡ length plan)
  kept_withdraws plan accepted k keys after kept (refused e answer same) = absurd (let z : ◌≡◌ {A = ℕ} 0 1 = cc in omega arith)
  kept_withdraws plan accepted k keys after kept (gone keys' known visits answer) =
      let len = length-map plan (others k) in
      let swept = kept_visits m law (dropped k accepted) visits (omega (arith, length-map plan (has_key k))) (kept_removed m law plan accepted kept k) in
      (swept.0, swept.1 ∙ len)
