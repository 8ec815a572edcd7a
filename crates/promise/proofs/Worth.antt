-- What the promise shuts out. Assumes nothing.
use Rattle.std.proofs.Common.{◌≡◌, ℕ, zero, suc, ◌-◌, ◌<◌, ◌≤◌, true, false, ◌≢◌, ◌⊎◌, List, [], ◌∷◌, ◌++◌, length, get_or, replicate, Some, Ok, Err, sym, refl, ap, ◌∙◌, subst, subst₂, ⊎_elim, arith, length-append}
use lib.ListN.{length-replicate}
use Rattle.std.specs.List.{slice_get}
use Rattle.std.proofs.lemmas.Bool.{cases_lt}
use Rattle.model.specs.declared.timing.Timing.{Timing}
use Rattle.model.specs.declared.row.Kind.{Kind}
use Rattle.model.specs.declared.row.Row.{Row}
use Rattle.model.specs.declared.fault.RequestFault.{RequestFault}
use Rattle.model.specs.Scale.{scale}
use Rattle.model.specs.Share.{densities}
use Rattle.model.specs.Row.{timings}
use Rattle.model.proofs.Bounds.{density_le}
use Rattle.runs.proofs.Late.{late_refutes}
use Rattle.board.specs.declared.admission.Admission.{Admission}
use Rattle.board.specs.Setup.{unfit}
use Rattle.board.specs.Split.{placed}
use Rattle.board.specs.Admit.{told}
use Rattle.board.specs.Look.{looked}
use Rattle.promise.specs.declared.call.Call.{Call}
use Rattle.promise.specs.declared.call.Answer.{Answer}
use Rattle.promise.specs.Layout.{Layout}
use Rattle.promise.specs.Meaning.{Meaning, Lawful}
use Rattle.promise.specs.Plan.{Plan, On, rows_at}
use Rattle.promise.specs.Choosing.{Takes, rank_at}
use Rattle.promise.specs.Kept.{Lies, Owned}
use Rattle.promise.specs.History.{Derived, History, begins, goes_on, accepted_after}
use Rattle.promise.specs.Promise.{NoPlace, FirstInRank, Along, Promised, Shown}
use Rattle.promise.specs.Worth.{asks, Holds, ShutOut}
use Rattle.promise.proofs.Lists.{all_one}
use Rattle.promise.proofs.Admitting.{lies_stands}
use Rattle.promise.proofs.Totals.{lies_budget}
use Rattle.promise.proofs.Histories.{empty_rows, fit, err_same, history_count}

-- what holds along a history holds of its first call
first_along : {R : Type 0} {m : Meaning R} (P : Plan → Call → Answer → Type 0) {plan last : Plan} {calls : List Call} {answers : List Answer} (h : History m plan calls answers last) → Along P h
    → (call : Call) (cs : List Call) (answer : Answer) (as' : List Answer) → calls ≡ call ∷ cs → answers ≡ answer ∷ as' → P plan call answer
first_along P begins a call cs answer as' e f = let z : ◌≡◌ {A = ℕ} 0 1 = cc in absurd (omega arith)
first_along P (goes_on {plan = plan} {call = first} {answer = said} d rest) a call cs answer as' e f =
    let same : first ≡ call = cc in
    let alike : said ≡ answer = cc in
    subst₂ (λ x y. P plan x y) same alike a.0

-- a history without calls stays where it is, and has as many answers as calls
no_calls : {R : Type 0} {m : Meaning R} {plan last : Plan} {calls : List Call} {answers : List Answer} → History m plan calls answers last → calls ≡ [] → plan ≡ last
no_calls begins e = refl
no_calls (goes_on d rest) e = let z : ◌≡◌ {A = ℕ} 0 1 = cc in absurd (omega arith)

as_many : {R : Type 0} {m : Meaning R} {plan last : Plan} {calls : List Call} {answers : List Answer} → History m plan calls answers last → length calls ≡ length answers
as_many begins = refl
as_many (goes_on d rest) = ap suc (as_many rest)

-- and of its last call, which leads to the plan that is left
record LastCall {R : Type 0} (m : Meaning R) (P : Plan → Call → Answer → Type 0) (call : Call) (answer : Answer) (last : Plan) : Type 0 where
  before : Plan
  holds_there : P before call answer
  derived : Derived m before call answer last

last_along : {R : Type 0} (m : Meaning R) (P : Plan → Call → Answer → Type 0) {plan last : Plan} {calls : List Call} {answers : List Answer} (h : History m plan calls answers last) → Along P h
    → (cs : List Call) (call : Call) (as' : List Answer) (answer : Answer) → calls ≡ cs ++ (call ∷ []) → answers ≡ as' ++ (answer ∷ []) → LastCall m P call answer last
last_along m P begins a cs call as' answer e f = absurd (omega (arith, ap length e, length-append cs (call ∷ [])))
last_along m P (goes_on {plan = plan} {next = next} {last = last} {call = c} {answer = said} {calls = calls} {answers = answers} d rest) a [] call [] answer e f =
    let e' : c ∷ calls ≡ call ∷ [] = e in
    let f' : said ∷ answers ≡ answer ∷ [] = f in
    let same : c ≡ call = cc in
    let alike : said ≡ answer = cc in
    let none : calls ≡ [] = cc in
    record {
      before = plan;
      holds_there = subst₂ (λ x y. P plan x y) same alike a.0;
      derived = subst (Derived m plan call answer) (no_calls rest none) (subst₂ (λ x y. Derived m plan x y next) same alike d);
    }
last_along m P (goes_on {calls = calls} {answers = answers} d rest) a [] call (b ∷ as') answer e f =
    absurd (omega (arith, ap length e, ap length f, as_many rest, length-append as' (answer ∷ [])))
last_along m P (goes_on {calls = calls} {answers = answers} d rest) a (b ∷ cs) call [] answer e f =
    absurd (omega (arith, ap length e, ap length f, as_many rest, length-append cs (call ∷ [])))
last_along m P (goes_on {call = c} {answer = said} {calls = calls} {answers = answers} d rest) a (b ∷ cs) call (b' ∷ as') answer e f =
    let e' : c ∷ calls ≡ b ∷ (cs ++ (call ∷ [])) = e in
    let f' : said ∷ answers ≡ b' ∷ (as' ++ (answer ∷ [])) = f in
    let later : calls ≡ cs ++ (call ∷ []) = cc in
    let said-later : answers ≡ as' ++ (answer ∷ []) = cc in
    last_along m P rest a.1 cs call as' answer later said-later

-- what stands at a place
nth_some : {X : Type 0} (l : List X) (i : ℕ) → i < length l → (x : X) × (slice_get l i ≡ Some x)
nth_some [] i lt = absurd (omega arith)
nth_some (x ∷ l) zero lt = (x, refl)
nth_some (x ∷ l) (suc i) lt = nth_some l i (omega arith)

nth_getD : {X : Type 0} (l : List X) (i : ℕ) (d : X) → i < length l → slice_get l i ≡ Some (get_or l i d)
nth_getD [] i d lt = absurd (omega arith)
nth_getD (x ∷ l) zero d lt = refl
nth_getD (x ∷ l) (suc i) d lt = nth_getD l i d (omega arith)

looks : (plan : Plan) → Shown plan → (p i : ℕ) → On plan p → 1 ≤ i → i ≤ length (rows_at plan p) → (row : Row) × (slice_get (rows_at plan p) (i - 1) ≡ Some row) × (looked plan p i ≡ Ok row)
looks plan shown p i on low high =
    let there = nth_some (rows_at plan p) (i - 1) (omega arith) in
    let a : suc (p - 1) ≡ p = omega (arith, on.from_one) in
    let b : suc (i - 1) ≡ i = omega arith in (
      there.0,
      there.1,
      subst₂ (λ q j. looked plan q j ≡ Ok there.0) a b
          (shown (p - 1) (i - 1) (rows_at plan p) there.0 (nth_getD plan (p - 1) [] (omega (arith, on.from_one, on.to_last))) there.1),
    )

-- one timing is never above density one
one_dense : (x : Timing) → densities scale (x ∷ []) ≤ scale
one_dense x = omega (arith, density_le scale x)

module _ {R : Type 0} (m : Meaning R) (law : Lawful m) where
  holds : (n : ℕ) (calls : List Call) (answers : List Answer) (last : Plan) → unfit n ≡ false → Promised m n calls answers last → Holds m n calls answers last
  holds n calls answers last set promised =
      let accepted = accepted_after [] calls answers in
      let kept = promised.kept in
      record {
        late = λ late. late_refutes accepted last late promised.never_late;
        stands = λ x among.
            let laid = all_one (λ z. (o : Layout) × Lies last z o) accepted x kept.laid among in
            (lies_stands last x laid.0 laid.1, lies_budget last x laid.0 laid.1);
        owned = λ p row on has.
            let own = all_one (Owned accepted) (rows_at last p) row (kept.owned p on) has in
            (own.owner, own.among, own.key);
        judged = kept.judged;
        looks = looks last promised.shown;
        stored = promised.stored.loads (replicate n []) (length-replicate n [] ∙ sym (history_count m law n calls answers last set promised.history));
      }

  full : (n k : ℕ) (x : Timing) (calls : List Call) (answers : List Answer) (last : Plan) →
      Promised m n (calls ++ (asks k x ∷ [])) (answers ++ (Answer.Admitted (Err RequestFault.NoPlace) ∷ [])) last →
      (p : ℕ) → On last p → densities scale (timings (rows_at last p) ++ (x ∷ [])) ≤ scale → 32 ≤ length (rows_at last p)
  full n k x calls answers last promised p on low =
      let r = last_along m NoPlace promised.history promised.no_place calls (asks k x) answers (Answer.Admitted (Err RequestFault.NoPlace)) refl refl in
      let same : last ≡ r.before = err_same m law r.before k x.budget x.deadline x.period RequestFault.NoPlace last r.derived in
      ⊎_elim
      (λ (free : length (rows_at last p) < 32).
      let over : scale < densities scale (timings (rows_at last p) ++ (x ∷ [])) =
      subst (λ q. On q p → length (rows_at q p) < 32 → scale < densities scale (timings (rows_at q p) ++ (x ∷ []))) (sym same)
      (r.holds_there refl x refl refl refl p) on free in
      absurd (omega arith))
      (λ (none : 32 ≤ length (rows_at last p)). none)
      (cases_lt (length (rows_at last p)) 32)

  empty : (n k : ℕ) (x : Timing) (last : Plan) → unfit n ≡ false → Promised m n (asks k x ∷ []) (Answer.Admitted (Err RequestFault.NoPlace) ∷ []) last → ⊥
  empty n k x last set promised =
      let none = empty_rows n 0 in
      let on : On (replicate n []) 1 = record { from_one = omega arith; to_last = omega (arith, length-replicate {A = List Row} n [], (fit n set).0) } in
      let refused = first_along NoPlace promised.history promised.no_place (asks k x) [] (Answer.Admitted (Err RequestFault.NoPlace)) [] refl refl in
      let over : scale < densities scale (x ∷ []) = rw none at (refused refl x refl refl refl 1 on (rw none (omega arith))) in
      omega (arith, one_dense x)

  one : (n k p q : ℕ) (x y : Timing) (a : Admission) (last : Plan) → Promised m n (asks k x ∷ []) (Answer.Admitted (Ok a) ∷ []) last →
      told (Ok a) ≡ Ok (placed k p Kind.Whole y ∷ []) → 1 ≤ q → q ≤ n → q ≢ p →
      (m.before (rank_at m.rank (replicate n []) p) (rank_at m.rank (replicate n []) q) ≡ true)
      ⊎ ((rank_at m.rank (replicate n []) p ≡ rank_at m.rank (replicate n []) q) × (p < q))
  one n k p q x y a last promised is low high ne =
      let none = empty_rows n (q - 1) in
      let first = first_along (FirstInRank m) promised.history promised.first_in_rank (asks k x) [] (Answer.Admitted (Ok a)) [] refl refl p y is in
      let takes : Takes m.accepts (replicate n []) [] y q = record {
        vacant = record {
          low = low;
          high = omega (arith, length-replicate {A = List Row} n []);
          room = rw none (omega arith);
          apart = refl;
        };
        accepted = rw none (law.dense (y ∷ []) (omega arith) (one_dense y));
      } in
      first.1.ahead q takes ne

  pub shut_out : ShutOut m
  shut_out = record { holds = holds; full = full; empty = empty; one = one }
