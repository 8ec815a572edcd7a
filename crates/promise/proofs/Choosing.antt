-- The choice of a processor is the one that the rules allow. Assumes nothing.
use Rattle.std.proofs.Common.{◌≡◌, ℕ, zero, suc, ◌+◌, ◌-◌, ◌<◌, ◌≤◌, Bool, true, false, cond, not, ◌&&◌, ◌≢◌, ◌⊎◌, List, [], ◌∷◌, ◌++◌, length, get_or, ℤ, Some, None, Option, sym, refl, ap, ◌∙◌, subst, inl, inr, arith, ltb-true, lt-ltb}
use Rattle.std.specs.List.{AllByRecursion}
use Rattle.std.proofs.ByRecursion.{All-weaker, All-append}
use Rattle.model.specs.Row.{timings}
use Rattle.model.specs.declared.row.Row.{Row}
use Rattle.model.specs.declared.timing.Timing.{Timing}
use Rattle.placement.specs.declared.candidate.Candidate.{Candidate}
use Rattle.placement.specs.First.{rank_of, choice, First, Chosen}
use Rattle.placement.proofs.Foremost.{chosen_first}
use Rattle.board.specs.declared.cut.Cut.{Cut}
use Rattle.processor.specs.Taking.{free, takes, as_candidate}
use Rattle.board.specs.Place.{used, open_to, candidates, number_of, place}
use Rattle.promise.specs.Choosing.{rows_at, Takes, rank_at, Taken}
use Rattle.board.proofs.Found.{and_left, and_right, not_so, Passes, candidates_pass}

-- candidates stand in rising number, from n on
from_on : (test : ℕ → List Row → Bool) (n : ℕ) (plan : List (List Row)) → AllByRecursion (λ c. n ≤ c.processor) (candidates test n plan)
from_on test n plan =
    All-weaker (λ c. Passes test n plan c.processor) (λ c. n ≤ c.processor) (λ c h. h.0) (candidates test n plan) (candidates_pass test n plan)

abbrev Rising : List Candidate → Type 0
Rising [] = Unit {0}
Rising (c ∷ l) = AllByRecursion (λ d. c.processor < d.processor) l × Rising l

rising_here : (b : Bool) (c : Candidate) (l : List Candidate) → AllByRecursion (λ d. c.processor < d.processor) l → Rising l → Rising (cond b (c ∷ l) l)
rising_here true c l above rest = (above, rest)
rising_here false c l above rest = rest

candidates_rise : (test : ℕ → List Row → Bool) (n : ℕ) (plan : List (List Row)) → Rising (candidates test n plan)
candidates_rise test n [] = tt
candidates_rise test n (rows ∷ plan) =
    rising_here (test n rows) (as_candidate n rows) (candidates test (n + 1) plan)
    (All-weaker (λ d. n + 1 ≤ d.processor) (λ d. n < d.processor) (λ d h. omega arith) (candidates test (n + 1) plan) (from_on test (n + 1) plan))
    (candidates_rise test (n + 1) plan)

rising_after : (before : List Candidate) (c : Candidate) (after : List Candidate) → Rising (before ++ (c ∷ after)) → AllByRecursion (λ d. c.processor < d.processor) after
rising_after [] c after r = r.0
rising_after (b ∷ before) c after r = rising_after before c after r.1

-- every candidate is a processor as a placement rule sees it
abbrev AsSeen : ℕ → List (List Row) → Candidate → Type 0
AsSeen n plan c = c ≡ as_candidate c.processor (get_or plan (c.processor - n) [])

seen_here : (b : Bool) (P : Candidate → Type 0) (c : Candidate) (l : List Candidate) → P c → AllByRecursion P l → AllByRecursion P (cond b (c ∷ l) l)
seen_here true P c l here rest = (here, rest)
seen_here false P c l here rest = rest

all_both : (P Q : Candidate → Type 0) (l : List Candidate) → AllByRecursion P l → AllByRecursion Q l → AllByRecursion (λ c. P c × Q c) l
all_both P Q [] p q = tt
all_both P Q (c ∷ l) (p, ps) (q, qs) = ((p, q), all_both P Q l ps qs)

candidates_seen : (test : ℕ → List Row → Bool) (n : ℕ) (plan : List (List Row)) → AllByRecursion (AsSeen n plan) (candidates test n plan)
candidates_seen test n [] = tt
candidates_seen test n (rows ∷ plan) =
    let z : n - n ≡ 0 = omega arith in
    seen_here (test n rows) (AsSeen n (rows ∷ plan)) (as_candidate n rows) (candidates test (n + 1) plan)
    (ap (λ k. as_candidate n (get_or (rows ∷ plan) k [])) (sym z))
    (All-weaker (λ c. AsSeen (n + 1) plan c × (n + 1 ≤ c.processor)) (AsSeen n (rows ∷ plan))
    (λ c h. let e : c.processor - n ≡ suc (c.processor - (n + 1)) = omega arith in
    h.0 ∙ ap (λ k. as_candidate c.processor (get_or (rows ∷ plan) k [])) (sym e))
    (candidates test (n + 1) plan)
    (all_both (AsSeen (n + 1) plan) (λ c. n + 1 ≤ c.processor) (candidates test (n + 1) plan) (candidates_seen test (n + 1) plan) (from_on test (n + 1) plan)))

-- whoever passes the test is a candidate
present_here : (b : Bool) (P : Candidate → Type 0) (c : Candidate) (l : List Candidate) → AllByRecursion P (cond b (c ∷ l) l) → b ≡ true → P c
present_here true P c l all e = all.0
present_here false P c l all e = let z : ◌≡◌ {A = ℕ} 0 1 = cc in absurd (omega arith)

present_rest : (b : Bool) (P : Candidate → Type 0) (c : Candidate) (l : List Candidate) → AllByRecursion P (cond b (c ∷ l) l) → AllByRecursion P l
present_rest true P c l all = all.1
present_rest false P c l all = all

present :
    (test : ℕ → List Row → Bool) (P : Candidate → Type 0) (i n : ℕ) (plan : List (List Row)) → i < length plan →
    test (n + i) (get_or plan i []) ≡ true → AllByRecursion P (candidates test n plan) → P (as_candidate (n + i) (get_or plan i []))
present test P i n [] h ok all = absurd (omega arith)
present test P zero n (rows ∷ plan) h ok all =
    let z : n + 0 ≡ n = omega arith in
    subst (λ k. P (as_candidate k rows)) (sym z)
    (present_here (test n rows) P (as_candidate n rows) (candidates test (n + 1) plan) all (ap (λ k. test k rows) (sym z) ∙ ok))
present test P (suc i) n (rows ∷ plan) h ok all =
    let e : n + suc i ≡ n + 1 + i = omega arith in
    subst (λ k. P (as_candidate k (get_or plan i []))) (sym e)
    (present test P i (n + 1) plan (omega arith) (ap (λ k. test k (get_or plan i [])) (sym e) ∙ ok)
    (present_rest (test n rows) P (as_candidate n rows) (candidates test (n + 1) plan) all))

-- whoever can take x passes the test, and the other way round
takes_open : (accepts : List Timing → Bool) (plan : List (List Row)) (cuts : List Cut) (x : Timing) (q : ℕ) →
    Takes accepts plan cuts x q → open_to accepts cuts x q (rows_at plan q) ≡ true
takes_open accepts plan cuts x q h =
    let rows = rows_at plan q in
    ap (λ b. not b && takes accepts rows x) h.vacant.apart
    ∙ ap (λ b. b && accepts (timings rows ++ (x ∷ []))) (lt-ltb (length rows) 32 h.vacant.room)
    ∙ h.accepted

open_takes : (accepts : List Timing → Bool) (plan : List (List Row)) (cuts : List Cut) (x : Timing) (p : ℕ) →
    Passes (open_to accepts cuts x) 1 plan p → Takes accepts plan cuts x p
open_takes accepts plan cuts x p (low, high, ok) =
    let rows = rows_at plan p in
    let asked : takes accepts rows x ≡ true = and_right (not (used cuts p)) (takes accepts rows x) ok in
    record {
      vacant = record {
        low = low;
        high = omega arith;
        room = ltb-true (length rows) 32 (and_left (free rows) (accepts (timings rows ++ (x ∷ []))) asked);
        apart = not_so (used cuts p) (and_left (not (used cuts p)) (takes accepts rows x) ok);
      };
      accepted = and_right (free rows) (accepts (timings rows ++ (x ∷ []))) asked;
    }

middle : (P : Candidate → Type 0) (before : List Candidate) (c : Candidate) (after : List Candidate) → AllByRecursion P (before ++ (c ∷ after)) → P c
middle P [] c after all = all.0
middle P (b ∷ before) c after all = middle P before c after all.1

module _ {R : Type 0} (first : R → R → Bool) (ranks : ℕ → ℤ → ℕ → R) (accepts : List Timing → Bool)
    (plan : List (List Row)) (cuts : List Cut) (x : Timing) where
  abbrev test : ℕ → List Row → Bool
  test = open_to accepts cuts x

  -- what holds of every candidate holds of everybody who can take x
  taker : (P : Candidate → Type 0) → AllByRecursion P (candidates test 1 plan) → (q : ℕ) → Takes accepts plan cuts x q → P (as_candidate q (rows_at plan q))
  taker P all q h =
      let low : 1 ≤ q = h.vacant.low in
      let high : q ≤ length plan = h.vacant.high in
      let e : 1 + (q - 1) ≡ q = omega arith in
      subst (λ k. P (as_candidate k (rows_at plan q))) e
      (present test P (q - 1) 1 plan (omega arith) (ap (λ k. test k (rows_at plan q)) e ∙ takes_open accepts plan cuts x q h) all)

  -- a candidate is later than c: in rank, or equal and of a higher number
  abbrev Later : Candidate → Candidate → Type 0
  Later c d = d.processor ≢ c.processor →
      (first (rank_of ranks c) (rank_of ranks d) ≡ true) ⊎ ((rank_of ranks c ≡ rank_of ranks d) × (c.processor < d.processor))

  later_after : (c d : Candidate) → ((first (rank_of ranks c) (rank_of ranks d) ≡ true) ⊎ (rank_of ranks c ≡ rank_of ranks d)) × (c.processor < d.processor) → Later c d
  later_after c d (inl h, above) apart = inl h
  later_after c d (inr h, above) apart = inr (h, above)

  all_later : (c : Candidate) → First first ranks (candidates test 1 plan) c → AllByRecursion (Later c) (candidates test 1 plan)
  all_later c f =
      subst (AllByRecursion (Later c)) (sym f.stands)
      (All-append (Later c) f.before (c ∷ f.after)
      (All-weaker (λ d. first (rank_of ranks c) (rank_of ranks d) ≡ true) (Later c) (λ d h apart. inl h) f.before f.strictly) (
        (λ apart. absurd (apart refl)),
        All-weaker (λ d. ((first (rank_of ranks c) (rank_of ranks d) ≡ true) ⊎ (rank_of ranks c ≡ rank_of ranks d)) × (c.processor < d.processor)) (Later c)
            (later_after c) f.after
            (all_both (λ d. (first (rank_of ranks c) (rank_of ranks d) ≡ true) ⊎ (rank_of ranks c ≡ rank_of ranks d)) (λ d. c.processor < d.processor) f.after
            f.weakly (rising_after f.before c f.after (subst Rising f.stands (candidates_rise test 1 plan)))),
      ))

  taken_by : (o : Option Candidate) → Chosen first ranks (candidates test 1 plan) o → Taken first ranks accepts plan cuts x (number_of o)
  taken_by None none = λ q h. taker (λ c. ⊥) (subst (AllByRecursion (λ (c : Candidate). ⊥)) (sym none) tt) q h
  taken_by (Some c) f =
      let is : AsSeen 1 plan c
      = middle (AsSeen 1 plan) f.before c f.after (subst (AllByRecursion (AsSeen 1 plan)) f.stands (candidates_seen test 1 plan)) in
      let rank : rank_of ranks c ≡ rank_at ranks plan c.processor = ap (rank_of ranks) is in
      record {
        takes = open_takes accepts plan cuts x c.processor
            (middle (λ d. Passes test 1 plan d.processor) f.before c f.after
            (subst (AllByRecursion (λ d. Passes test 1 plan d.processor)) f.stands (candidates_pass test 1 plan)));
        ahead = λ q h apart.
            subst (λ r. (first r (rank_at ranks plan q) ≡ true) ⊎ ((r ≡ rank_at ranks plan q) × (c.processor < q))) rank
            (taker (Later c) (all_later c f) q h apart);
      }

pub place_taken :
    {R : Type 0} (first : R → R → Bool) (ranks : ℕ → ℤ → ℕ → R)
    (chain : (a b c : R) → first a b ≡ true → first b c ≡ true → first a c ≡ true)
    (total : (a b : R) → first a b ≡ false → first b a ≡ false → a ≡ b)
    (accepts : List Timing → Bool) (plan : List (List Row)) (cuts : List Cut) (x : Timing) →
    Taken first ranks accepts plan cuts x (place first ranks accepts plan cuts x)
place_taken first ranks chain total accepts plan cuts x =
    let l = candidates (open_to accepts cuts x) 1 plan in
    taken_by first ranks accepts plan cuts x (choice first ranks l) (chosen_first first ranks chain total l)
