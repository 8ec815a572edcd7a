-- Gathering on one processor, and on those to be visited, step by step. Assumes nothing.
use Rattle.std.proofs.Common.{◌≡◌, ℕ, zero, suc, ◌+◌, ◌<◌, ◌≤◌, Bool, true, false, cond, List, [], ◌∷◌, ◌++◌, map, length, get_or, take, drop, set, Some, None, Option, sym, refl, ap, ◌∙◌, add-one}
use Rattle.std.proofs.lemmas.List.{append-nil, append_assoc, at_drop_more, map-set, take_all, drop_all}
use Rattle.model.specs.declared.timing.Timing.{Timing}
use Rattle.model.specs.declared.row.Row.{Row}
use Rattle.model.specs.Row.{timings, due}
use Rattle.model.specs.declared.row.Kind.{Kind}
use Rattle.processor.specs.declared.rows.Processor.{Processor}
use Rattle.processor.specs.Rows.{rows_of}
use Rattle.board.specs.Timed.{timed}
use Rattle.processor.specs.Gathering.{others, candidate}
use Rattle.board.specs.Withdraw.{without, sum_over, whole, regrouped, gather, gather_row, gather_whole, gather_from}

-- a map in place has gone over the whole list
pub map_over_all : {X : Type 0} (f : X → X) (xs : List X) (i : ℕ) → length xs ≤ i → map f (take i xs) ++ drop i xs ≡ map f xs
map_over_all f xs i h = rw (take_all i xs h, drop_all i xs h, append-nil (map f xs)) refl

-- what is left on a processor of the plan without a reservation
pub without_at : (key : ℕ) (plan : List (List Row)) (p : ℕ) → get_or (without key plan) p [] ≡ others key (get_or plan p [])
without_at key [] p = refl
without_at key (rows ∷ plan) zero = refl
without_at key (rows ∷ plan) (suc p) = without_at key plan p

-- the whole form, from its numbers
pub whole_is :
    (plan : List (List Row)) (row : Row) (c d : ℕ) (o : Option Timing) →
    c ≡ sum_over (λ r. r.timing.budget) row.key plan → d ≡ sum_over due row.key plan → timed c d row.timing.period ≡ o →
    whole plan row ≡ o
whole_is plan row c d o p q e =
    ap (λ n. timed n (sum_over due row.key plan) row.timing.period) (sym p) ∙ ap (λ n. timed c n row.timing.period) (sym q) ∙ e

-- a row at the end of what is left on a processor
pub regrouped_is :
    (p key : ℕ) (x : Timing) (plan : List (List Row)) (items : List Processor) (q : Processor) → map rows_of items ≡ without key plan →
    rows_of q ≡ get_or (map rows_of items) p [] ++ (record { key = key; kind = Kind.Whole; timing = x } ∷ []) →
    map rows_of (set items p q) ≡ regrouped p key x plan
regrouped_is p key x plan items q left end =
    map-set rows_of items p q ∙ ap (set (map rows_of items) p) end
    ∙ ap (λ l. set l p (get_or l p [] ++ (record { key = key; kind = Kind.Whole; timing = x } ∷ []))) left

module _ (accepts : List Timing → Bool) (p : ℕ) (plan : List (List Row)) where
  pub gather_none : candidate (get_or plan p []) ≡ None → gather accepts p plan ≡ (0, plan)
  gather_none e = ap (gather_row accepts p plan) e

  module _ (row : Row) (found : candidate (get_or plan p []) ≡ Some row) where
    pub gather_unfit : whole plan row ≡ None → gather accepts p plan ≡ (0, plan)
    gather_unfit e = ap (gather_row accepts p plan) found ∙ ap (gather_whole accepts p plan row.key) e

    pub gather_asked :
        (x : Timing) (b : Bool) → whole plan row ≡ Some x → accepts (timings (others row.key (get_or plan p [])) ++ (x ∷ [])) ≡ b →
        gather accepts p plan ≡ cond b (row.key, regrouped p row.key x plan) (0, plan)
    gather_asked x b e asked =
        ap (gather_row accepts p plan) found ∙ ap (gather_whole accepts p plan row.key) e
        ∙ ap (λ (v : Bool). cond v (row.key, regrouped p row.key x plan) (0, plan)) asked

-- one processor more of those to be visited
module _ (accepts : List Timing → Bool) (i : ℕ) (visited : List Bool) (now next : List (List Row)) (k : ℕ) where
  pub visit_step : (b : Bool) → i < length visited → get_or visited i false ≡ b →
      k ≡ (cond b (gather accepts i now) (0, now)).0 → next ≡ (cond b (gather accepts i now) (0, now)).1 →
      ((gather_from accepts i (drop i visited) now).0 ≡ k ∷ (gather_from accepts (i + 1) (drop (i + 1) visited) next).0)
      × ((gather_from accepts i (drop i visited) now).1 ≡ (gather_from accepts (i + 1) (drop (i + 1) visited) next).1)
  visit_step true h e p q = rw (p, q, at_drop_more (λ l. gather_from accepts i l now) visited i false h, e, add-one) (refl, refl)
  visit_step false h e p q = rw (p, q, at_drop_more (λ l. gather_from accepts i l now) visited i false h, e, add-one) (refl, refl)

  pub visit_more : (all : List ℕ × List (List Row)) (keys keys' : List ℕ) (b : Bool) → i < length visited → get_or visited i false ≡ b →
      k ≡ (cond b (gather accepts i now) (0, now)).0 → next ≡ (cond b (gather accepts i now) (0, now)).1 → keys' ≡ keys ++ (k ∷ []) →
      keys ++ (gather_from accepts i (drop i visited) now).0 ≡ all.0 → (gather_from accepts i (drop i visited) now).1 ≡ all.1 →
      (keys' ++ (gather_from accepts (i + 1) (drop (i + 1) visited) next).0 ≡ all.0)
      × ((gather_from accepts (i + 1) (drop (i + 1) visited) next).1 ≡ all.1)
  visit_more all keys keys' b h e p q more front back =
      let s = visit_step b h e p q in
      let rest = (gather_from accepts (i + 1) (drop (i + 1) visited) next).0 in
      (ap (λ l. l ++ rest) more ∙ append_assoc keys (k ∷ []) rest ∙ ap (λ l. keys ++ l) (sym s.0) ∙ front, sym s.1 ∙ back)
