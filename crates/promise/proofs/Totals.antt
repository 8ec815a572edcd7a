-- The rows of a reservation that lies on a plan sum to its layout. Assumes nothing.
use Rattle.std.proofs.Common.{◌≡◌, ℕ, zero, suc, ◌+◌, ◌<◌, ◌≤◌, Bool, true, false, cond, eqb, List, [], ◌∷◌, length, get_or, refl, ap, ◌∙◌, subst, arith, ne_eqb, eqb-true}
use borrow.Author.Tests.{eqb-false}
use Rattle.std.specs.List.{AllByRecursion}
use Rattle.std.proofs.ByRecursion.{All-weaker}
use Rattle.model.specs.declared.timing.Timing.{Timing}
use Rattle.model.specs.declared.row.Row.{Row}
use Rattle.runs.specs.Plan.{Reservation, sum_at, total, span}
use Rattle.promise.specs.Layout.{Layout, layout, layout_rows, tail_budgets}
use Rattle.promise.specs.Plan.{Plan, On, rows_at, rows_on, of_key}
use Rattle.promise.specs.Kept.{Lies}
use Rattle.board.specs.declared.admission.Placed.{Placed}
use Rattle.board.specs.declared.cut.Cut.{Cut}
use Rattle.board.specs.Split.{tails}

module _ (g : Row → ℕ) where
  abbrev pub sum_rows : List Row → ℕ
  sum_rows [] = 0
  sum_rows (row ∷ rows) = g row + sum_rows rows

  abbrev pub sum_placed : List Placed → ℕ
  sum_placed [] = 0
  sum_placed (y ∷ l) = g y.row + sum_placed l

  pub of_one : (k : ℕ) (rows : List Row) → sum_at (λ i r. cond (eqb r.key k) (g r) 0) rows ≡ sum_rows (of_key k rows)
  of_one k [] = refl
  of_one k (row ∷ rows) = go (eqb row.key k) (of_one k rows)
    where
      go : (b : Bool) → sum_at (λ i r. cond (eqb r.key k) (g r) 0) rows ≡ sum_rows (of_key k rows)
          → cond b (g row) 0 + sum_at (λ i r. cond (eqb r.key k) (g r) 0) rows ≡ sum_rows (cond b (row ∷ of_key k rows) (of_key k rows))
      go true rest = ap (λ n. g row + n) rest
      go false rest = omega arith

  -- the sum over n processors after a of the rows placed on each
  abbrev spread : List Placed → ℕ → ℕ → ℕ
  spread l a zero = 0
  spread l a (suc n) = sum_rows (rows_on (suc a) l) + spread l (suc a) n

  spread_plan : (k : ℕ) (l : List Placed) (plan : Plan) (a : ℕ)
      → ((i q : ℕ) → i < length plan → q ≡ suc (a + i) → of_key k (get_or plan i []) ≡ rows_on q l)
      → sum_at (λ p rows. sum_at (λ i r. cond (eqb r.key k) (g r) 0) rows) plan ≡ spread l a (length plan)
  spread_plan k l [] a shows = refl
  spread_plan k l (rows ∷ plan) a shows =
      let here : sum_at (λ i r. cond (eqb r.key k) (g r) 0) rows ≡ sum_rows (rows_on (suc a) l) =
      of_one k rows ∙ ap sum_rows (shows 0 (suc a) (omega arith) (omega arith)) in
      let there = spread_plan k l plan (suc a) (λ i q lt e. shows (suc i) q (omega arith) (omega arith)) in
      omega arith

  -- the part of one placed row
  abbrev spot : ℕ → ℕ → ℕ → ℕ → ℕ
  spot q v a zero = 0
  spot q v a (suc n) = cond (eqb q (suc a)) v 0 + spot q v (suc a) n

  spot_past : (q v a n : ℕ) → q ≤ a → spot q v a n ≡ 0
  spot_past q v a zero le = refl
  spot_past q v a (suc n) le = rw (ne_eqb q (suc a) (λ (e : q ≡ suc a). omega arith)) (omega (arith, spot_past q v (suc a) n (omega arith)))

  spot_in : (q v a n : ℕ) → a < q → q ≤ a + n → spot q v a n ≡ v
  spot_in q v a zero lt le = absurd (omega arith)
  spot_in q v a (suc n) lt le = go (eqb q (suc a)) refl (λ further. spot_in q v (suc a) n further (omega arith))
    where
      go : (b : Bool) → eqb q (suc a) ≡ b → (suc a < q → spot q v (suc a) n ≡ v) → cond b v 0 + spot q v (suc a) n ≡ v
      go true e rest = omega (arith, spot_past q v (suc a) n (omega (arith, eqb-true q (suc a) e)))
      go false e rest = let apart : q ≡ suc a → ⊥ = eqb-false q (suc a) e in omega (arith, rest (omega arith))

  spread_none : (a n : ℕ) → spread [] a n ≡ 0
  spread_none a zero = refl
  spread_none a (suc n) = omega (arith, spread_none (suc a) n)

  spread_more : (y : Placed) (l : List Placed) (a n : ℕ) → spread (y ∷ l) a n ≡ spot y.processor (g y.row) a n + spread l a n
  spread_more y l a zero = refl
  spread_more y l a (suc n) = go (eqb y.processor (suc a)) (spread_more y l (suc a) n)
    where
      go : (b : Bool) → spread (y ∷ l) (suc a) n ≡ spot y.processor (g y.row) (suc a) n + spread l (suc a) n
          → sum_rows (cond b (y.row ∷ rows_on (suc a) l) (rows_on (suc a) l)) + spread (y ∷ l) (suc a) n
          ≡ (cond b (g y.row) 0 + spot y.processor (g y.row) (suc a) n) + (sum_rows (rows_on (suc a) l) + spread l (suc a) n)
      go true rest = omega arith
      go false rest = omega arith

  spread_all : (l : List Placed) (n : ℕ) → AllByRecursion (λ y. (0 < y.processor) × (y.processor ≤ n)) l → spread l 0 n ≡ sum_placed l
  spread_all [] n within = spread_none 0 n
  spread_all (y ∷ l) n within =
      omega (arith, spread_more y l 0 n, spot_in y.processor (g y.row) 0 n within.0.0 (omega (arith, within.0.1)), spread_all l n within.1)

  -- the sum over the rows of a key, by what the plan shows of it
  pub total_shown : (k : ℕ) (plan : Plan) (l : List Placed) → AllByRecursion (λ y. On plan y.processor) l
      → ((p : ℕ) → On plan p → of_key k (rows_at plan p) ≡ rows_on p l) → total (λ p i r. g r) k plan ≡ sum_placed l
  total_shown k plan l ons shows =
      spread_plan k l plan 0 (λ i q lt e. subst (λ j. of_key k (get_or plan j []) ≡ rows_on q l) (omega arith) (shows q (record { from_one = omega arith; to_last = omega arith })))
      ∙ spread_all l (length plan) (All-weaker (λ y. On plan y.processor) (λ y. (0 < y.processor) × (y.processor ≤ length plan)) (λ y on. (on.from_one, on.to_last)) l ons)

tail_budget_sum : (k j : ℕ) (cuts : List Cut) → sum_placed (λ r. r.timing.budget) (tails k j cuts) ≡ tail_budgets cuts
tail_budget_sum k j [] = refl
tail_budget_sum k j (y ∷ cuts) = ap (λ n. y.timing.budget + n) (tail_budget_sum k (j + 1) cuts)

tail_span_sum : (k j : ℕ) (cuts : List Cut) → sum_placed span (tails k j cuts) ≡ tail_budgets cuts
tail_span_sum k j [] = refl
tail_span_sum k j (y ∷ cuts) = ap (λ n. y.timing.budget + n) (tail_span_sum k (j + 1) cuts)

layout_budget : (k p : ℕ) (x : Timing) (cuts : List Cut) → sum_placed (λ r. r.timing.budget) (layout_rows k (layout p x cuts)) ≡ x.budget + tail_budgets cuts
layout_budget k p x [] = refl
layout_budget k p x (y ∷ cuts) = ap (λ n. x.budget + n) (tail_budget_sum k 1 (y ∷ cuts))

layout_span : (k p : ℕ) (x : Timing) (cuts : List Cut) → sum_placed span (layout_rows k (layout p x cuts)) ≡ x.deadline + tail_budgets cuts
layout_span k p x [] = refl
layout_span k p x (y ∷ cuts) = ap (λ n. x.deadline + n) (tail_span_sum k 1 (y ∷ cuts))

pub lies_budget : (plan : Plan) (x : Reservation) (o : Layout) → Lies plan x o → total (λ p i r. r.timing.budget) x.key plan ≡ x.budget
lies_budget plan x (layout p t cuts) h =
    total_shown (λ r. r.timing.budget) x.key plan (layout_rows x.key (layout p t cuts)) h.on h.shows ∙ layout_budget x.key p t cuts ∙ h.comes_to.0

pub lies_deadline : (plan : Plan) (x : Reservation) (o : Layout) → Lies plan x o → total (λ p i r. span r) x.key plan ≡ x.deadline
lies_deadline plan x (layout p t cuts) h =
    total_shown span x.key plan (layout_rows x.key (layout p t cuts)) h.on h.shows ∙ layout_span x.key p t cuts ∙ h.comes_to.1
