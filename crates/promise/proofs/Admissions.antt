-- What admission computes is what its rules allow, for a judge whose allowance keeps the cap and an order that keeps its laws.
-- Assumes nothing.
use Rattle.std.proofs.Common.{◌≡◌, ℕ, zero, suc, ◌+◌, ◌-◌, ◌<◌, ◌≤◌, Bool, true, false, cond, eqb, List, [], ◌∷◌, ◌++◌, length, ℤ, Some, None, Option, Result, sym, refl, ap, ◌∙◌, subst, arith}
use native.Mathlib.Decide.{dec_le, dec_lt}
use borrow.Author.Tests.{eqb-false}
use Rattle.model.specs.Row.{timings}
use Rattle.model.specs.declared.timing.Timing.{Timing}
use Rattle.model.specs.declared.row.Kind.{Kind}
use Rattle.model.specs.declared.row.Row.{Row}
use Rattle.model.specs.declared.fault.RequestFault.{RequestFault}
use Rattle.board.specs.declared.cut.Cut.{Cut}
use Rattle.board.specs.declared.admission.Placed.{Placed}
use Rattle.board.specs.Place.{used, place}
use Rattle.board.specs.Timed.{timed_by, timed}
use Rattle.board.specs.Tail.{tail_search, cut_on, next_cut}
use Rattle.board.specs.Request.{request_fault}
use Rattle.board.specs.Split.{placed, split_rows, or_more, after_cut, split, split_up}
use Rattle.board.specs.Admit.{decided, found_place, from_timing, unless_fault, admitted, after}
use Rattle.promise.specs.Choosing.{rows_at, Vacant, Takes, Taken, LongestTail, NoTail}
use Rattle.promise.specs.Admits.{Newcomer, Sets, Splits, ended, headed, further, Admits}
use Rattle.board.proofs.Timed.{made}
use Rattle.board.proofs.Tails.{cut_made}
use Rattle.promise.proofs.Choosing.{place_taken}
use Rattle.board.proofs.Found.{next_fits}
use Rattle.promise.proofs.Longest.{search_none, search_some}
use Rattle.promise.proofs.Vacancies.{vacant, vacant_all, vacant_none, cut_takes_one}
use Rattle.promise.proofs.Faults.{Verdict, verdict}

-- a timing of given numbers has them
abbrev Numbers : ℕ → ℕ → ℕ → Timing → Type 0
Numbers c d t y = (y.budget ≡ c) × (y.deadline ≡ d) × (y.period ≡ t)

numbers_by :
    (c d t : ℕ) (y : Timing) (a : Dec (1 ≤ c)) (b : Dec (c ≤ d)) (e : Dec (d ≤ t)) (f : Dec (t ≤ 100000)) →
    timed_by c d t a b e f ≡ Some y → Numbers c d t y
numbers_by c d t y (no n) b e f h = let z : ◌≡◌ {A = ℕ} 0 1 = cc in absurd (omega arith)
numbers_by c d t y (yes a) (no n) e f h = let z : ◌≡◌ {A = ℕ} 0 1 = cc in absurd (omega arith)
numbers_by c d t y (yes a) (yes b) (no n) f h = let z : ◌≡◌ {A = ℕ} 0 1 = cc in absurd (omega arith)
numbers_by c d t y (yes a) (yes b) (yes e) (no n) h = let z : ◌≡◌ {A = ℕ} 0 1 = cc in absurd (omega arith)
numbers_by c d t y (yes a) (yes b) (yes e) (yes f) h =
    let same : ◌≡◌ {A = Timing} (record { budget = c; deadline = d; period = t; some = a; fits = b; constrained = e; short = f }) y = cc in
    (sym (ap (λ (x : Timing). x.budget) same), sym (ap (λ (x : Timing). x.deadline) same), sym (ap (λ (x : Timing). x.period) same))

timed_numbers : (c d t : ℕ) (y : Timing) → timed c d t ≡ Some y → Numbers c d t y
timed_numbers c d t y = numbers_by c d t y (dec_le 1 c) (dec_le c d) (dec_le d t) (dec_le t 100000)

-- a cut taken apart
cut_parts :
    (p : ℕ) (s : Cut × Timing) (z : Bool) (tail head : Option Timing) → cond z None (cut_on p tail head) ≡ Some s →
    (z ≡ false) × (tail ≡ Some s.0.timing) × (head ≡ Some s.1) × (s.0.processor ≡ p)
cut_parts p s true tail head h = let z : ◌≡◌ {A = ℕ} 0 1 = cc in absurd (omega arith)
cut_parts p s false None head h = let z : ◌≡◌ {A = ℕ} 0 1 = cc in absurd (omega arith)
cut_parts p s false (Some tail) None h = let z : ◌≡◌ {A = ℕ} 0 1 = cc in absurd (omega arith)
cut_parts p s false (Some tail) (Some head) h =
    let same : ◌≡◌ {A = Cut × Timing} (record { processor = p; timing = tail }, head) s = cc in
    (refl, ap (λ (q : Cut × Timing). Some q.0.timing) same, ap (λ (q : Cut × Timing). Some q.1) same, sym (ap (λ (q : Cut × Timing). q.0.processor) same))

module _ {R : Type 0} (first : R → R → Bool) (ranks : ℕ → ℤ → ℕ → R) (accepts : List Timing → Bool) (allows : List Timing → ℕ → ℕ → ℕ)
    (plan : List (List Row)) (key : ℕ)
    (chain : (a b c : R) → first a b ≡ true → first b c ≡ true → first a c ≡ true)
    (total : (a b : R) → first a b ≡ false → first b a ≡ false → a ≡ b)
    (capped : (l : List Timing) (t c : ℕ) → allows l t c ≤ c) where
  abbrev pl : List Cut → Timing → Option ℕ
  pl = place first ranks accepts plan

  abbrev nx : List Cut → Timing → Option (Cut × Timing)
  nx = next_cut allows plan

  abbrev found : List Cut → Timing → ℕ × ℕ
  found cuts x = tail_search allows plan cuts x.period (x.budget - 1)

  next_sets : (cuts : List Cut) (x : Timing) (s : Cut × Timing) → nx cuts x ≡ Some s →
      Sets first ranks accepts allows plan key cuts x (cuts ++ (s.0 ∷ [])) s.1
  next_sets cuts x s e =
      let p : ℕ = (found cuts x).0 in
      let b : ℕ = (found cuts x).1 in
      let parts = cut_parts p s (eqb b 0) (timed b b x.period) (timed (x.budget - b) (x.deadline - b) x.period) e in
      let apart : b ≡ 0 → ⊥ = eqb-false b 0 parts.0 in
      let tail = timed_numbers b b x.period s.0.timing parts.1 in
      let head = timed_numbers (x.budget - b) (x.deadline - b) x.period s.1 parts.2 in
      let low : 1 ≤ s.1.budget = s.1.some in
      let fits : x.budget ≤ x.deadline = x.fits in
      let won : LongestTail allows plan cuts x.period (x.budget - 1) p b = search_some allows plan cuts x.period (x.budget - 1) (omega arith) in
      record {
        processor = s.0.processor;
        tail = s.0.timing;
        longest = subst (λ k. LongestTail allows plan cuts x.period (x.budget - 1) k s.0.timing.budget) (sym parts.3)
            (subst (λ k. LongestTail allows plan cuts x.period (x.budget - 1) p k) (sym tail.0) won);
        cut = record {
          tail_budget = refl;
          tail_deadline = tail.1 ∙ sym tail.0;
          tail_period = tail.2;
          head_budget = omega (arith, tail.0, head.0);
          head_deadline = omega (arith, tail.0, head.0, head.1);
          head_period = head.2;
        };
        grows = refl;
      }

  next_none : (cuts : List Cut) (x : Timing) → nx cuts x ≡ None → NoTail allows plan cuts x.period (x.budget - 1)
  next_none cuts x e =
      elim (dec_lt 0 (found cuts x).1) [
        | no z ↦ search_none allows plan cuts x.period (x.budget - 1) (omega arith)
        | yes some ↦
            let p : ℕ = (found cuts x).0 in
            let b : ℕ = (found cuts x).1 in
            let won : LongestTail allows plan cuts x.period (x.budget - 1) p b = search_some allows plan cuts x.period (x.budget - 1) some in
            let cap : allows (timings (rows_at plan p)) x.period (x.budget - 1) ≤ x.budget - 1 = capped (timings (rows_at plan p)) x.period (x.budget - 1) in
            let bound : b ≤ x.budget - 1 = omega (arith, won.budget) in
            let tail : Timing = record { budget = b; deadline = b; period = x.period; some = omega arith; fits = omega arith; constrained = omega arith; short = x.short } in
            let head : Timing = record { budget = x.budget - b; deadline = x.deadline - b; period = x.period; some = omega arith; fits = omega arith; constrained = omega arith; short = x.short } in
            let is = cut_made x p b tail head some refl refl refl refl refl refl in
            let z : ◌≡◌ {A = ℕ} 0 1 = cc in absurd (omega arith)
      ]

  abbrev So : List Cut → Timing → Option (List Placed) → Type 0
  So = Splits first ranks accepts allows plan key

  abbrev left : List Cut → ℕ
  left cuts = vacant (used cuts) 1 (length plan)

  -- a tail more, a processor less
  one_less : (cuts : List Cut) (x : Timing) (s : Cut × Timing) → nx cuts x ≡ Some s → left (cuts ++ (s.0 ∷ [])) + 1 ≡ left cuts
  one_less cuts x s e =
      let fits = next_fits allows plan cuts x s e in cut_takes_one (length plan) cuts s.0 fits.0.0 fits.0.1 fits.1

  full : (cuts : List Cut) → left cuts ≡ 0 → (q : ℕ) → Vacant plan cuts q → ⊥
  full cuts z q v = let high : q ≤ length plan = v.high in vacant_none (used cuts) 1 (length plan) q z v.low (omega arith) v.apart

  -- with one processor left, one more tail leaves none for the head
  last : (cuts : List Cut) (x : Timing) (o : Option (Cut × Timing)) → nx cuts x ≡ o → left cuts ≡ 1 → So cuts x None
  last cuts x None e one = ended (next_none cuts x e)
  last cuts x (Some s) e one =
      let z : left (cuts ++ (s.0 ∷ [])) ≡ 0 = omega (arith, one_less cuts x s e) in
      further (cuts ++ (s.0 ∷ [])) s.1 (next_sets cuts x s e)
      (λ q h. full (cuts ++ (s.0 ∷ [])) z q h.vacant)
      (ended (λ q h. absurd (full (cuts ++ (s.0 ∷ [])) z q h.vacant)))

  head_so :
      (cuts : List Cut) (x : Timing) (s : Cut × Timing) (more : Option (List Placed)) (o : Option ℕ) → nx cuts x ≡ Some s →
      pl (cuts ++ (s.0 ∷ [])) s.1 ≡ o → So (cuts ++ (s.0 ∷ [])) s.1 more →
      So cuts x (or_more (λ p. split_rows key p s.1 (cuts ++ (s.0 ∷ []))) o more)
  head_so cuts x s more (Some p) e was later =
      headed (cuts ++ (s.0 ∷ [])) s.1 p (next_sets cuts x s e)
      (subst (Taken first ranks accepts plan (cuts ++ (s.0 ∷ [])) s.1) was (place_taken first ranks chain total accepts plan (cuts ++ (s.0 ∷ [])) s.1))
      refl
  head_so cuts x s more None e was later =
      further (cuts ++ (s.0 ∷ [])) s.1 (next_sets cuts x s e)
      (subst (Taken first ranks accepts plan (cuts ++ (s.0 ∷ [])) s.1) was (place_taken first ranks chain total accepts plan (cuts ++ (s.0 ∷ [])) s.1))
      later

  after_so :
      (n : ℕ) (cuts : List Cut) (x : Timing) (o : Option (Cut × Timing)) →
      ((cuts : List Cut) (x : Timing) → left cuts ≡ n + 1 → So cuts x (split key pl nx n cuts x)) →
      nx cuts x ≡ o → left cuts ≡ suc n + 1 → So cuts x (after_cut key pl (split key pl nx n) cuts o)
  after_so n cuts x None later e v = ended (next_none cuts x e)
  after_so n cuts x (Some s) later e v =
      head_so cuts x s (split key pl nx n (cuts ++ (s.0 ∷ [])) s.1) (pl (cuts ++ (s.0 ∷ [])) s.1) e refl
      (later (cuts ++ (s.0 ∷ [])) s.1 (omega (arith, one_less cuts x s e)))

  split_so : (n : ℕ) (cuts : List Cut) (x : Timing) → left cuts ≡ n + 1 → So cuts x (split key pl nx n cuts x)
  split_so zero cuts x v = last cuts x (nx cuts x) refl (omega arith)
  split_so (suc n) cuts x v = after_so n cuts x (nx cuts x) (split_so n) refl v

  -- the rows decided on, or no place
  abbrev Answers : ℕ → ℕ → ℕ → Result (List Placed) RequestFault → Type 0
  Answers c d t answer = Admits first ranks accepts allows plan key c d t answer (after plan answer)

  parts_so :
      (c d t : ℕ) (x : Timing) (o : Option (List Placed)) → Newcomer key c d t plan x → ((q : ℕ) → Takes accepts plan [] x q → ⊥) →
      So [] x o → Answers c d t (found_place o)
  parts_so c d t x (Some rows) new nobody so = Admits.split x rows new nobody so refl refl
  parts_so c d t x None new nobody so = Admits.no_place x new nobody so refl refl

  place_so :
      (c d t : ℕ) (x : Timing) (o : Option ℕ) (more : Option (List Placed)) → Newcomer key c d t plan x → Taken first ranks accepts plan [] x o →
      So [] x more → Answers c d t (found_place (or_more (λ p. placed key p Kind.Whole x ∷ []) o more))
  place_so c d t x (Some p) more new taken so = Admits.whole x p new taken refl refl
  place_so c d t x None more new taken so = parts_so c d t x more new taken so

  fault_so :
      1 ≤ length plan → (c d t : ℕ) (o : Option RequestFault) → Verdict key c d t plan o →
      Answers c d t (unless_fault o (from_timing (decided first ranks accepts allows plan key) (timed c d t)))
  fault_so some c d t (Some fault) v = Admits.refused fault v refl refl
  fault_so some c d t None v =
      let budget : 1 ≤ c = let h : c ≡ 0 → ⊥ = v RequestFault.Budget in omega arith in
      let deadline : c ≤ d = let h : d < c → ⊥ = v RequestFault.Deadline in omega arith in
      let period : d ≤ t = let h : t < d → ⊥ = v RequestFault.Period in omega arith in
      let limit : t ≤ 100000 = let h : 100000 < t → ⊥ = v RequestFault.Limit in omega arith in
      let x : Timing = record { budget = c; deadline = d; period = t; some = budget; fits = deadline; constrained = period; short = limit } in
      let start : left [] ≡ length plan - 1 + 1 = vacant_all (used []) 1 (length plan) (λ p. refl) ∙ (let k : length plan ≡ length plan - 1 + 1 = omega arith in k) in
      subst (Answers c d t) (ap (from_timing (decided first ranks accepts allows plan key)) (made x c d t refl refl refl))
      (place_so c d t x (pl [] x) (split_up first ranks accepts allows plan key x)
      (record { faultless = v; budget = refl; deadline = refl; period = refl })
      (place_taken first ranks chain total accepts plan [] x)
      (split_so (length plan - 1) [] x start))

  pub admits_so : 1 ≤ length plan → (c d t : ℕ) → Answers c d t (admitted first ranks accepts allows plan key c d t)
  admits_so some c d t = fault_so some c d t (request_fault key c d t plan) (verdict key c d t plan)

  -- any answer that is the computed one, with the plan that it leaves
  pub admits_told : 1 ≤ length plan → (c d t : ℕ) (answer : Result (List Placed) RequestFault) (last : List (List Row))
      → answer ≡ admitted first ranks accepts allows plan key c d t → last ≡ after plan answer → Admits first ranks accepts allows plan key c d t answer last
  admits_told some c d t answer last is same =
      subst (λ q. Admits first ranks accepts allows plan key c d t answer q) (sym same)
      (subst (λ r. Admits first ranks accepts allows plan key c d t r (after plan r)) (sym is) (admits_so some c d t))
