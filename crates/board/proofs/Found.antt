-- What the choice of a processor and the longest tail find: a processor with a free row and without a part of the newcomer.
-- Assumes nothing.
use Rattle.std.proofs.Common.{◌≡◌, ℕ, zero, suc, ◌+◌, ◌-◌, ◌<◌, ◌≤◌, Bool, true, false, cond, not, ◌&&◌, eqb, ltb, List, [], ◌∷◌, ◌++◌, reverse, length, get_or, ℤ, Some, None, Option, sym, refl, ap, ◌∙◌, subst, arith, ltb-true}
use borrow.Author.Tests.{eqb-false}
use Rattle.std.specs.List.{AllByRecursion}
use Rattle.std.proofs.ByRecursion.{All-weaker}
use Rattle.model.specs.declared.row.Row.{Row}
use Rattle.model.specs.declared.row.Kind.{Kind}
use Rattle.model.specs.declared.timing.Timing.{Timing}
use Rattle.placement.specs.declared.candidate.Candidate.{Candidate}
use Rattle.placement.specs.First.{better, best_of, choice, rank_of}
use Rattle.board.specs.declared.cut.Cut.{Cut}
use Rattle.board.specs.declared.admission.Placed.{Placed}
use Rattle.processor.specs.Keys.{has_tail}
use Rattle.processor.specs.Taking.{free, takes, offers, as_candidate}
use Rattle.board.specs.Place.{used, open_to, candidates, number_of, place}
use Rattle.board.specs.Tail.{offer_at, longer, longest, tail_search, cut_on, next_cut}
use Rattle.board.specs.Timed.{timed}
use Rattle.board.specs.Split.{placed, split_rows, or_more, after_cut, split}
use Rattle.board.specs.declared.admission.Admission.{Admission}
use Rattle.board.specs.Admission.{made_rows, rows_found}
use Rattle.board.specs.Admit.{Room, RoomFor, decided}
use Rattle.board.proofs.Rooms.{Free, Fresh, fresh_more, split_room, room_from_clear}

-- tests taken apart
pub and_left : (a b : Bool) → a && b ≡ true → a ≡ true
and_left true b e = refl
and_left false b e = e

pub and_right : (a b : Bool) → a && b ≡ true → b ≡ true
and_right true b e = e
and_right false true e = refl
and_right false false e = e

pub not_so : (a : Bool) → not a ≡ true → a ≡ false
not_so false e = refl
not_so true e = sym e

pub kept_zero : (a : Bool) (m : ℕ) → 0 < cond a 0 m → (a ≡ false) × (0 < m)
kept_zero false m h = (refl, h)
kept_zero true m h = absurd (omega arith)

pub kept_some : (a : Bool) (m : ℕ) → 0 < cond a m 0 → a ≡ true
kept_some true m h = refl
kept_some false m h = absurd (omega arith)

-- of the processors numbered from n on, p is one that passes a test
abbrev pub Passes : (ℕ → List Row → Bool) → ℕ → List (List Row) → ℕ → Type 0
Passes test n plan p = (n ≤ p) × (p < n + length plan) × (test p (get_or plan (p - n) []) ≡ true)

pub passes_later : (test : ℕ → List Row → Bool) (n : ℕ) (rows : List Row) (plan : List (List Row)) (p : ℕ) → Passes test (n + 1) plan p → Passes test n (rows ∷ plan) p
passes_later test n rows plan p (low, high, ok) =
    let e : p - n ≡ suc (p - (n + 1)) = omega arith in
    (omega arith, omega arith, ap (λ k. test p (get_or (rows ∷ plan) k [])) e ∙ ok)

passes_here : (test : ℕ → List Row → Bool) (n : ℕ) (rows : List Row) (plan : List (List Row)) → test n rows ≡ true → Passes test n (rows ∷ plan) n
passes_here test n rows plan ok =
    let e : n - n ≡ 0 = omega arith in
    (omega arith, omega arith, ap (λ k. test n (get_or (rows ∷ plan) k [])) e ∙ ok)

-- every candidate passes the test
with_here : (P : Candidate → Type 0) (b : Bool) (c : Candidate) (l : List Candidate) → (b ≡ true → P c) → AllByRecursion P l → AllByRecursion P (cond b (c ∷ l) l)
with_here P true c l here rest = (here refl, rest)
with_here P false c l here rest = rest

pub candidates_pass : (test : ℕ → List Row → Bool) (n : ℕ) (plan : List (List Row)) → AllByRecursion (λ c. Passes test n plan c.processor) (candidates test n plan)
candidates_pass test n [] = tt
candidates_pass test n (rows ∷ plan) =
    with_here (λ c. Passes test n (rows ∷ plan) c.processor) (test n rows) (as_candidate n rows) (candidates test (n + 1) plan)
    (passes_here test n rows plan)
    (All-weaker (λ c. Passes test (n + 1) plan c.processor) (λ c. Passes test n (rows ∷ plan) c.processor)
    (λ c. passes_later test n rows plan c.processor) (candidates test (n + 1) plan) (candidates_pass test (n + 1) plan))

-- what holds of all candidates holds of the one chosen
module _ {R : Type 0} (first : R → R → Bool) (ranks : ℕ → ℤ → ℕ → R) (P : Candidate → Type 0) where
  either_one : (b : Bool) (x y : Candidate) → P x → P y → P (cond b x y)
  either_one true x y p q = p
  either_one false x y p q = q

  best_is : (a : Candidate) (l : List Candidate) → P a → AllByRecursion P l → P (best_of first ranks a l)
  best_is a [] p all = p
  best_is a (b ∷ l) p (q, all) =
      best_is (better first ranks a b) l (either_one (first (rank_of ranks b) (rank_of ranks a)) b a q p) all

  choice_is : (l : List Candidate) (p : ℕ) → AllByRecursion P l → number_of (choice first ranks l) ≡ Some p → (c : Candidate) × P c × (c.processor ≡ p)
  choice_is [] p all e = let z : ◌≡◌ {A = ℕ} 0 1 = cc in absurd (omega arith)
  choice_is (a ∷ l) p (q, all) e =
      let same : (best_of first ranks a l).processor ≡ p = cc in (best_of first ranks a l, best_is a l q all, same)

-- processor p has a free row and no part of the newcomer
abbrev pub Fits : List (List Row) → List Cut → ℕ → Type 0
Fits plan cuts p = Free plan p × (used cuts p ≡ false)

open_fits : (accepts : List Timing → Bool) (plan : List (List Row)) (cuts : List Cut) (x : Timing) (p : ℕ) →
    Passes (open_to accepts cuts x) 1 plan p → Fits plan cuts p
open_fits accepts plan cuts x p (low, high, ok) =
    let rows = get_or plan (p - 1) [] in
    let asked : takes accepts rows x ≡ true = and_right (not (used cuts p)) (takes accepts rows x) ok in (
      (low, omega arith, ltb-true (length rows) 32 (and_left (free rows) _ asked)),
      not_so (used cuts p) (and_left (not (used cuts p)) (takes accepts rows x) ok),
    )

pub place_fits :
    {R : Type 0} (first : R → R → Bool) (ranks : ℕ → ℤ → ℕ → R) (accepts : List Timing → Bool) (plan : List (List Row))
    (cuts : List Cut) (x : Timing) (p : ℕ) → place first ranks accepts plan cuts x ≡ Some p → Fits plan cuts p
place_fits first ranks accepts plan cuts x p e =
    let test = open_to accepts cuts x in
    let chosen = choice_is first ranks (λ c. Passes test 1 plan c.processor) (candidates test 1 plan) p (candidates_pass test 1 plan) e in
    open_fits accepts plan cuts x p (subst (Passes test 1 plan) chosen.2 chosen.1)

-- what holds of the longest so far and of every offer holds of the longest
longest_is :
    (Q : ℕ × ℕ → Type 0) (offer : ℕ → List Row → ℕ) (n : ℕ) (plan : List (List Row)) (best : ℕ × ℕ) → Q best →
    ((i : ℕ) → i < length plan → 0 < offer (n + i) (get_or plan i []) → Q (n + i, offer (n + i) (get_or plan i []))) →
    Q (longest offer n plan best)
longest_is Q offer n [] best held all = held
longest_is Q offer n (rows ∷ plan) best held all =
    let z : n + 0 ≡ n = omega arith in
    let here : (b : Bool) → ltb best.1 (offer n rows) ≡ b → Q (cond b (n, offer n rows) best)
    = λ b. elim b as (λ t. ltb best.1 (offer n rows) ≡ t → Q (cond t (n, offer n rows) best)) [
      | true ↦ (λ e. let lt : best.1 < offer n rows = ltb-true best.1 (offer n rows) e in
          let some : 0 < offer (n + 0) rows = rw z (omega arith) in
          subst (λ k. Q (k, offer k rows)) z (all 0 (omega arith) some))
      | false ↦ (λ e. held)
    ] in
    longest_is Q offer (n + 1) plan (longer n (offer n rows) best) (here (ltb best.1 (offer n rows)) refl)
    (λ i h some.
    let e : n + 1 + i ≡ n + suc i = omega arith in
    let some' : 0 < offer (n + suc i) (get_or plan i []) = subst (λ k. 0 < offer k (get_or plan i [])) e some in
    subst (λ k. Q (k, offer k (get_or plan i []))) (sym e) (all (suc i) (omega arith) some'))

longest_fits :
    (allows : List Timing → ℕ → ℕ → ℕ) (plan : List (List Row)) (cuts : List Cut) (t c : ℕ) →
    0 < (tail_search allows plan cuts t c).1 → Fits plan cuts (tail_search allows plan cuts t c).0
longest_fits allows plan cuts t c =
    longest_is (λ q. 0 < q.1 → Fits plan cuts q.0) (offer_at allows cuts t c) 1 plan (0, 0)
    (λ h. absurd (omega arith))
    (λ i h some _.
    let rows = get_or plan i [] in
    let unused = kept_zero (used cuts (1 + i)) (offers allows rows t c) some in
    let room = and_left (free rows) _ (kept_some (free rows && not (has_tail rows)) (allows _ t c) unused.1) in
    let e : 1 + i - 1 ≡ i = omega arith in
    ((omega arith, omega arith, subst (λ k. length (get_or plan k []) < 32) (sym e) (ltb-true (length rows) 32 room)), unused.0))

-- a tail was set: it has a budget, and it stands where it was found
cut_found :
    (x : Timing) (p b : ℕ) (s : Cut × Timing) (z : Bool) (tail head : Option Timing) → eqb b 0 ≡ z →
    cond z None (cut_on p tail head) ≡ Some s → (0 < b) × (s.0.processor ≡ p)
cut_found x p b s true tail head e h = let z : ◌≡◌ {A = ℕ} 0 1 = cc in absurd (omega arith)
cut_found x p b s false None head e h = let z : ◌≡◌ {A = ℕ} 0 1 = cc in absurd (omega arith)
cut_found x p b s false (Some tail) None e h = let z : ◌≡◌ {A = ℕ} 0 1 = cc in absurd (omega arith)
cut_found x p b s false (Some tail) (Some head) e h =
    let same : (record { processor = p; timing = tail }, head) ≡ s = cc in
    let some : b ≡ 0 → ⊥ = eqb-false b 0 e in
    (omega arith, sym (ap (λ (q : Cut × Timing). q.0.processor) same))

pub next_fits :
    (allows : List Timing → ℕ → ℕ → ℕ) (plan : List (List Row)) (cuts : List Cut) (x : Timing) (s : Cut × Timing) →
    next_cut allows plan cuts x ≡ Some s → Fits plan cuts s.0.processor
next_fits allows plan cuts x s e =
    let found = tail_search allows plan cuts x.period (x.budget - 1) in
    let cut = cut_found x found.0 found.1 s (eqb found.1 0) (timed found.1 found.1 x.period)
    (timed (x.budget - found.1) (x.deadline - found.1) x.period) refl e in
    subst (Fits plan cuts) (sym cut.1) (longest_fits allows plan cuts x.period (x.budget - 1) cut.0)

-- what is decided finds room
module _ (plan : List (List Row)) (key : ℕ) (pl : List Cut → Timing → Option ℕ) (nx : List Cut → Timing → Option (Cut × Timing))
    (pl-fits : (cuts : List Cut) (x : Timing) (p : ℕ) → pl cuts x ≡ Some p → Fits plan cuts p)
    (nx-fits : (cuts : List Cut) (x : Timing) (s : Cut × Timing) → nx cuts x ≡ Some s → Fits plan cuts s.0.processor) where
  head_fits :
      (cuts : List Cut) (x : Timing) (rows : List Placed) (more : Option (List Placed)) (o : Option ℕ) → Fresh plan (reverse cuts) →
      (more ≡ Some rows → Room plan rows) → pl cuts x ≡ o → or_more (λ p. split_rows key p x cuts) o more ≡ Some rows → Room plan rows
  head_fits cuts x rows more (Some p) fresh later was e =
      let same : split_rows key p x cuts ≡ rows = cc in
      let fits = pl-fits cuts x p was in
      subst (Room plan) same (split_room plan key p x cuts fits.0 fits.1 fresh)
  head_fits cuts x rows more None fresh later was e = later e

  after_fits :
      (cuts : List Cut) (x : Timing) (rows : List Placed) (more : List Cut → Timing → Option (List Placed)) (o : Option (Cut × Timing)) →
      Fresh plan (reverse cuts) →
      ((cuts : List Cut) (x : Timing) → Fresh plan (reverse cuts) → more cuts x ≡ Some rows → Room plan rows) →
      nx cuts x ≡ o → after_cut key pl more cuts o ≡ Some rows → Room plan rows
  after_fits cuts x rows more None fresh later was e = let z : ◌≡◌ {A = ℕ} 0 1 = cc in absurd (omega arith)
  after_fits cuts x rows more (Some s) fresh later was e =
      let fits = nx-fits cuts x s was in
      let grown = fresh_more plan cuts s.0 fits.0 fits.1 fresh in
      head_fits (cuts ++ (s.0 ∷ [])) s.1 rows (more (cuts ++ (s.0 ∷ [])) s.1) (pl (cuts ++ (s.0 ∷ [])) s.1) grown
      (later (cuts ++ (s.0 ∷ [])) s.1 grown) refl e

  split_fits : (n : ℕ) (cuts : List Cut) (x : Timing) (rows : List Placed) → Fresh plan (reverse cuts) →
      split key pl nx n cuts x ≡ Some rows → Room plan rows
  split_fits zero cuts x rows fresh e = let z : ◌≡◌ {A = ℕ} 0 1 = cc in absurd (omega arith)
  split_fits (suc n) cuts x rows fresh e =
      after_fits cuts x rows (split key pl nx n) (nx cuts x) fresh (λ more-cuts rest. split_fits n more-cuts rest rows) refl e

  pub whole_fits : (n : ℕ) (x : Timing) (rows : List Placed) (o : Option ℕ) → pl [] x ≡ o →
      or_more (λ p. placed key p Kind.Whole x ∷ []) o (split key pl nx n [] x) ≡ Some rows → Room plan rows
  whole_fits n x rows (Some p) was e =
      let same : placed key p Kind.Whole x ∷ [] ≡ rows = cc in
      subst (Room plan) same (room_from_clear plan (placed key p Kind.Whole x ∷ []) ((pl-fits [] x p was).0, refl, tt))
  whole_fits n x rows None was e = split_fits n [] x rows tt e

pub decided_fits :
    {R : Type 0} (first : R → R → Bool) (ranks : ℕ → ℤ → ℕ → R) (accepts : List Timing → Bool) (allows : List Timing → ℕ → ℕ → ℕ)
    (plan : List (List Row)) (key : ℕ) (x : Timing) (rows : List Placed) →
    decided first ranks accepts allows plan key x ≡ Some rows → Room plan rows
decided_fits first ranks accepts allows plan key x rows e =
    whole_fits plan key (place first ranks accepts plan) (next_cut allows plan)
    (place_fits first ranks accepts plan) (next_fits allows plan) (length plan - 1) x rows (place first ranks accepts plan [] x) refl e

pub found_fits :
    {R : Type 0} (first : R → R → Bool) (ranks : ℕ → ℤ → ℕ → R) (accepts : List Timing → Bool) (allows : List Timing → ℕ → ℕ → ℕ)
    (plan : List (List Row)) (key : ℕ) (x : Timing) (found : Option Admission) →
    rows_found found ≡ decided first ranks accepts allows plan key x → RoomFor plan found
found_fits first ranks accepts allows plan key x None e = tt
found_fits first ranks accepts allows plan key x (Some a) e = decided_fits first ranks accepts allows plan key x (made_rows a) (sym e)
