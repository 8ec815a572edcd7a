-- The tail search finds the longest tail that the rules allow. Assumes nothing.
use Rattle.std.proofs.Common.{◌≡◌, ℕ, zero, suc, ◌+◌, ◌-◌, ◌<◌, ◌≤◌, Bool, true, false, cond, not, ◌&&◌, ltb, ◌≢◌, ◌⊎◌, List, [], ◌∷◌, length, get_or, sym, refl, ap, ◌∙◌, subst, inl, inr, arith, ltb-false, ltb-true, lt-ltb}
use native.Mathlib.Decide.{dec_lt}
use Rattle.model.specs.Row.{timings}
use Rattle.model.specs.declared.row.Row.{Row}
use Rattle.model.specs.declared.timing.Timing.{Timing}
use Rattle.board.specs.declared.cut.Cut.{Cut}
use Rattle.processor.specs.Keys.{has_tail}
use Rattle.processor.specs.Taking.{free, offers}
use Rattle.board.specs.Place.{used}
use Rattle.board.specs.Tail.{offer_at, longer, longest, tail_search}
use Rattle.promise.specs.Choosing.{rows_at, Asked, LongestTail, NoTail}
use Rattle.board.proofs.Found.{and_left, and_right, not_so, kept_zero, kept_some}

-- what stands at the end: the longest so far, or the first of the longest offers, and no offer is longer
module _ (offer : ℕ → List Row → ℕ) where
  abbrev at : ℕ → List (List Row) → ℕ → ℕ
  at n plan i = offer (n + i) (get_or plan i [])

  pub record Ends (n : ℕ) (plan : List (List Row)) (best r : ℕ × ℕ) : Type 0 where
    pub over : best.1 ≤ r.1
    pub most : (i : ℕ) → i < length plan → at n plan i ≤ r.1
    pub from : (r ≡ best) ⊎ ((i : ℕ) × (i < length plan) × (r ≡ (n + i, at n plan i)) × (best.1 < r.1) × ((j : ℕ) → j < i → at n plan j < r.1))

  at_later : (n : ℕ) (rows : List Row) (plan : List (List Row)) (i : ℕ) → at n (rows ∷ plan) (suc i) ≡ at (n + 1) plan i
  at_later n rows plan i = let e : n + suc i ≡ n + 1 + i = omega arith in ap (λ k. offer k (get_or plan i [])) e

  at_here : (n : ℕ) (rows : List Row) (plan : List (List Row)) → at n (rows ∷ plan) 0 ≡ offer n rows
  at_here n rows plan = let e : n + 0 ≡ n = omega arith in ap (λ k. offer k rows) e

  most_of : (n : ℕ) (rows : List Row) (plan : List (List Row)) (r : ℕ × ℕ) → offer n rows ≤ r.1 →
      ((i : ℕ) → i < length plan → at (n + 1) plan i ≤ r.1) → (i : ℕ) → i < length (rows ∷ plan) → at n (rows ∷ plan) i ≤ r.1
  most_of n rows plan r here later zero h = omega (arith, at_here n rows plan)
  most_of n rows plan r here later (suc i) h = omega (arith, at_later n rows plan i, later i (omega arith))

  before_of : (n : ℕ) (rows : List Row) (plan : List (List Row)) (r : ℕ × ℕ) (i : ℕ) → offer n rows < r.1 →
      ((j : ℕ) → j < i → at (n + 1) plan j < r.1) → (j : ℕ) → j < suc i → at n (rows ∷ plan) j < r.1
  before_of n rows plan r i here later zero h = omega (arith, at_here n rows plan)
  before_of n rows plan r i here later (suc j) h = omega (arith, at_later n rows plan j, later j (omega arith))

  shift : (n : ℕ) (rows : List Row) (plan : List (List Row)) (i : ℕ) → ◌≡◌ {A = ℕ × ℕ} (n + 1 + i, at (n + 1) plan i) (n + suc i, at n (rows ∷ plan) (suc i))
  shift n rows plan i = let e : n + 1 + i ≡ n + suc i = omega arith in ap (λ k. (k, offer k (get_or plan i []))) e

  step : (n : ℕ) (rows : List Row) (plan : List (List Row)) (best r : ℕ × ℕ) (b : Bool) → ltb best.1 (offer n rows) ≡ b →
      Ends (n + 1) plan (cond b (n, offer n rows) best) r → Ends n (rows ∷ plan) best r
  step n rows plan best r true e h =
      let lt : best.1 < offer n rows = ltb-true best.1 (offer n rows) e in
      let here : offer n rows ≤ r.1 = h.over in
      record {
        over = omega arith;
        most = most_of n rows plan r here h.most;
        from = elim h.from [
          | inl same ↦
              let z : n + 0 ≡ n = omega arith in
              let eq : r.1 ≡ offer n rows = ap (λ (q : ℕ × ℕ). q.1) same in
              inr (0, omega arith, same ∙ sym (ap (λ k. (k, offer k rows)) z), omega arith, λ j k. absurd (omega arith))
          | inr (i, within, is, more, before) ↦
              inr (suc i, omega arith, is ∙ shift n rows plan i, omega arith, before_of n rows plan r i (omega arith) before)
        ];
      }
  step n rows plan best r false e h =
      let ge : offer n rows ≤ best.1 = ltb-false best.1 (offer n rows) e in
      let over : best.1 ≤ r.1 = h.over in
      record {
        over = over;
        most = most_of n rows plan r (omega arith) h.most;
        from = elim h.from [
          | inl same ↦ inl same
          | inr (i, within, is, more, before) ↦
              inr (suc i, omega arith, is ∙ shift n rows plan i, more, before_of n rows plan r i (omega arith) before)
        ];
      }

  pub longest_ends : (n : ℕ) (plan : List (List Row)) (best : ℕ × ℕ) → Ends n plan best (longest offer n plan best)
  longest_ends n [] best = record { over = omega arith; most = λ i h. absurd (omega arith); from = inl refl }
  longest_ends n (rows ∷ plan) best =
      step n rows plan best (longest offer n (rows ∷ plan) best) (ltb best.1 (offer n rows)) refl
      (longest_ends (n + 1) plan (longer n (offer n rows) best))

module _ (allows : List Timing → ℕ → ℕ → ℕ) (plan : List (List Row)) (cuts : List Cut) (t c : ℕ) where
  abbrev allowed : ℕ → ℕ
  allowed q = allows (timings (rows_at plan q)) t c

  -- whoever is asked offers what the judge allows, and whoever offers something was asked
  asked_offers : (q : ℕ) → Asked plan cuts q → offer_at allows cuts t c q (rows_at plan q) ≡ allowed q
  asked_offers q h =
      let rows = rows_at plan q in
      ap (λ (b : Bool). cond b 0 (offers allows rows t c)) h.vacant.apart
      ∙ ap (λ (b : Bool). cond (b && not (has_tail rows)) (allowed q) 0) (lt-ltb (length rows) 32 h.vacant.room)
      ∙ ap (λ (b : Bool). cond (not b) (allowed q) 0) h.tailless

  offers_asked : (q : ℕ) → 1 ≤ q → q ≤ length plan → 0 < offer_at allows cuts t c q (rows_at plan q) → Asked plan cuts q
  offers_asked q low high some =
      let rows = rows_at plan q in
      let unused = kept_zero (used cuts q) (offers allows rows t c) some in
      let both = kept_some (free rows && not (has_tail rows)) (allowed q) unused.1 in
      record {
        vacant = record {
          low = low;
          high = high;
          room = ltb-true (length rows) 32 (and_left (free rows) (not (has_tail rows)) both);
          apart = unused.0;
        };
        tailless = not_so (has_tail rows) (and_right (free rows) (not (has_tail rows)) both);
      }

  abbrev r : ℕ × ℕ
  r = tail_search allows plan cuts t c

  ends : Ends (offer_at allows cuts t c) 1 plan (0, 0) r
  ends = longest_ends (offer_at allows cuts t c) 1 plan (0, 0)

  asked_at : (q : ℕ) → Asked plan cuts q → at (offer_at allows cuts t c) 1 plan (q - 1) ≡ allowed q
  asked_at q h =
      let low : 1 ≤ q = h.vacant.low in
      let e : 1 + (q - 1) ≡ q = omega arith in
      ap (λ k. offer_at allows cuts t c k (rows_at plan q)) e ∙ asked_offers q h

  pub search_none : r.1 ≡ 0 → NoTail allows plan cuts t c
  search_none z q h =
      let low : 1 ≤ q = h.vacant.low in
      let high : q ≤ length plan = h.vacant.high in
      omega (arith, asked_at q h, ends.most (q - 1) (omega arith))

  abbrev Wins : ℕ × ℕ → Type 0
  Wins q = LongestTail allows plan cuts t c q.0 q.1

  pub search_some : 0 < r.1 → Wins r
  search_some some =
      elim ends.from [
        | inl same ↦ let z : r.1 ≡ 0 = ap (λ (q : ℕ × ℕ). q.1) same in absurd (omega arith)
        | inr (i, within, is, more, before) ↦
            let mine : ℕ = at (offer_at allows cuts t c) 1 plan i in
            let won : r.1 ≡ mine = ap (λ (q : ℕ × ℕ). q.1) is in
            let e : 1 + i - 1 ≡ i = omega arith in
            let here : offer_at allows cuts t c (1 + i) (rows_at plan (1 + i)) ≡ mine
            = ap (λ k. offer_at allows cuts t c (1 + i) (get_or plan k [])) e in
            let asked : Asked plan cuts (1 + i) = offers_asked (1 + i) (omega arith) (omega arith) (omega arith) in
            let win : Wins (1 + i, mine) = record {
              asked = asked;
              budget = sym (asked_offers (1 + i) asked) ∙ here;
              some = omega arith;
              most = λ q h apart.
                  let low : 1 ≤ q = h.vacant.low in
                  let high : q ≤ length plan = h.vacant.high in
                  let theirs : at (offer_at allows cuts t c) 1 plan (q - 1) ≡ allowed q = asked_at q h in
                  let least : at (offer_at allows cuts t c) 1 plan (q - 1) ≤ r.1 = ends.most (q - 1) (omega arith) in
                  elim (dec_lt (q - 1) i) [
                    | yes lower ↦ inl (omega (arith, before (q - 1) lower))
                    | no later ↦ elim (dec_lt (allowed q) mine) [
                      | yes less ↦ inl less
                      | no same ↦ inr (omega arith, let far : q - 1 ≢ i = λ k. apart (omega arith) in omega arith)
                    ]
                  ];
            } in
            subst Wins (sym is) win
      ]
