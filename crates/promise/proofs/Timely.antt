-- On a plan that keeps the invariant nobody is late. Assumes nothing.
use Rattle.std.proofs.Common.{◌≡◌, ℕ, suc, ◌+◌, ◌-◌, eqb, List, [], ◌∷◌, get_or, sym, refl, subst, inl, inr, ⊎_elim, arith, eq-eqb}
use Rattle.std.specs.List.{ContainsAt as Has, AllByRecursion}
use Rattle.std.proofs.ByRecursion.{All-from_get_or}
use Rattle.model.specs.declared.row.Row.{Row}
use Rattle.model.specs.Row.{timings}
use Rattle.runs.specs.Plan.{Reservation, span}
use Rattle.runs.specs.Processor.{DemandFits}
use Rattle.runs.specs.Board.{RowOf, Owned as OwnedRow, Tight as NoSlack, AddsUp, PlanFor, NeverLate}
use Rattle.runs.proofs.Promise.{board_never_late}
use Rattle.promise.specs.Layout.{Layout, layout, layout_rows}
use Rattle.promise.specs.Meaning.{Meaning, Lawful}
use Rattle.promise.specs.Plan.{Plan, On, rows_at, rows_on}
use Rattle.promise.specs.Kept.{Lies, ComesTo, Owned, Kept}
use Rattle.promise.proofs.Lists.{has_none, has_cases, all_one, all_from_has, has_kept, rows_on_all}
use Rattle.promise.proofs.Totals.{lies_budget, lies_deadline}
use Rattle.board.specs.declared.cut.Cut.{Cut}
use Rattle.board.specs.Split.{tails}

-- a row with a reservation's period, whose piece is due a deadline after its start
abbrev pub Tight : Reservation → Row → Type 0
Tight x row = (x.period ≡ row.timing.period) × (span row ≡ row.timing.deadline)

tails_tight : (x : Reservation) (k j : ℕ) (cuts : List Cut) → AllByRecursion (λ y. (y.timing.deadline ≡ y.timing.budget) × (y.timing.period ≡ x.period)) cuts
    → AllByRecursion (λ y. Tight x y.row) (tails k j cuts)
tails_tight x k j [] h = tt
tails_tight x k j (y ∷ cuts) h = ((sym h.0.1, sym h.0.0), tails_tight x k (j + 1) cuts h.1)

pub layout_tight : (x : Reservation) (k : ℕ) (o : Layout) → ComesTo x o → AllByRecursion (λ y. Tight x y.row) (layout_rows k o)
layout_tight x k (layout p t []) h = ((sym h.2, refl), tt)
layout_tight x k (layout p t (y ∷ cuts)) h = ((sym h.2, refl), tails_tight x k 1 (y ∷ cuts) h.3)

-- each row of a reservation that lies on the plan
pub lies_tight : (plan : Plan) (x : Reservation) (o : Layout) (p : ℕ) (row : Row) → Lies plan x o → On plan p → Has (rows_at plan p) row → row.key ≡ x.key → Tight x row
lies_tight plan x o p row h on has e =
    let shown = has_kept (λ r. eqb r.key x.key) (rows_at plan p) row has (eq-eqb row.key x.key e) in
    all_one (Tight x) (rows_on p (layout_rows x.key o)) row
    (rows_on_all (Tight x) p (layout_rows x.key o) (layout_tight x x.key o h.comes_to))
    (subst (λ l. Has l row) (h.shows p on) shown)

-- a row of one of the accepted is owned
owned_by : (accepted : List Reservation) (x : Reservation) (row : Row) → Has accepted x → RowOf x row → OwnedRow accepted row
owned_by [] x row has is = has_none x has
owned_by (z ∷ accepted) x row has is = ⊎_elim (λ e. inl (subst (λ w. RowOf w row) (sym e) is)) (λ later. inr (owned_by accepted x row later is)) (has_cases z accepted x has)

module _ {R : Type 0} (m : Meaning R) (law : Lawful m) (plan : Plan) (accepted : List Reservation) (kept : Kept m plan accepted) where
  -- what holds on each processor holds of each list
  each : (P : List Row → Type 0) → ((p : ℕ) → On plan p → P (rows_at plan p)) → AllByRecursion P plan
  each P h = All-from_get_or P plan [] (λ i lt. subst (λ j. P (get_or plan j [])) (let e : suc i - 1 ≡ i = omega arith in e) (h (suc i) (record { from_one = omega arith; to_last = lt })))

  -- the owner of a row, and that it is tight
  row_for : (p : ℕ) → On plan p → (row : Row) → Has (rows_at plan p) row → OwnedRow accepted row × NoSlack row
  row_for p on row has =
      let own = all_one (Owned accepted) (rows_at plan p) row (kept.owned p on) has in
      let laid = all_one (λ x. (o : Layout) × Lies plan x o) accepted own.owner kept.laid own.among in
      let tight = lies_tight plan own.owner laid.0 p row laid.1 on has (sym own.key) in
      (owned_by accepted own.owner row own.among (own.key, tight.0), tight.1)

  pub kept_plan_for : PlanFor accepted plan
  kept_plan_for = record {
    owned = each (AllByRecursion (OwnedRow accepted)) (λ p on. all_from_has (OwnedRow accepted) (rows_at plan p) (λ row has. (row_for p on row has).0));
    tight = each (AllByRecursion NoSlack) (λ p on. all_from_has NoSlack (rows_at plan p) (λ row has. (row_for p on row has).1));
    sums = all_from_has (AddsUp plan) accepted (λ x has.
        let laid = all_one (λ z. (o : Layout) × Lies plan z o) accepted x kept.laid has in
        record { budget = lies_budget plan x laid.0 laid.1; deadline = lies_deadline plan x laid.0 laid.1 });
  }

  pub kept_never_late : NeverLate accepted plan
  kept_never_late = board_never_late accepted plan kept_plan_for
      (each (λ rows. DemandFits (timings rows)) (λ p on. law.sound (timings (rows_at plan p)) (kept.judged p on)))
