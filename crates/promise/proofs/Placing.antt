-- What it means to have a place, and to have none. Assumes nothing.
use Rattle.std.proofs.Common.{◌≡◌, ℕ, ◌+◌, ◌-◌, ◌<◌, ◌≤◌, Bool, true, false, ◌||◌, eqb, ◌⊎◌, List, [], ◌∷◌, ◌++◌, map, reverse, length, Some, Option, sym, refl, ap, ◌∙◌, subst, subst₂, inl, inr, ⊎_elim, true≢false, arith, length-append, eq-eqb}
use mathlib.Core.List.{reverse_aux}
use native.Mathlib.Decide.{dec_le}
use lib.ListN.{length-map}
use Rattle.std.specs.List.{ContainsAt as Has, AllByRecursion}
use Rattle.std.proofs.lemmas.List.{reverse-append}
use Rattle.model.specs.declared.timing.Timing.{Timing}
use Rattle.model.specs.Scale.{scale}
use Rattle.model.specs.Share.{densities}
use Rattle.model.specs.Row.{timings}
use Rattle.board.specs.declared.cut.Cut.{Cut}
use Rattle.board.specs.declared.admission.Placed.{Placed}
use Rattle.board.specs.Place.{used}
use Rattle.model.specs.declared.row.Kind.{Kind}
use Rattle.board.specs.Split.{placed, tails}
use Rattle.promise.specs.Choosing.{rows_at, Takes}
use Rattle.promise.specs.Admits.{Sets, Splits, ended, headed, further}
use Rattle.promise.specs.Meaning.{Meaning, Lawful}
use Rattle.promise.specs.Plan.{Plan, On}
use Rattle.promise.specs.Layout.{layout, layout_rows, Distinct, tail_budgets}
use Rattle.promise.proofs.Lists.{has_none, has_here, has_there, has_cases, has_map, has_of_map}

abbrev pub tail_processors : List Cut → List ℕ
tail_processors = map (λ y. y.processor)

-- a tail of period t that its processor takes
pub record GoodTail {R : Type 0} (m : Meaning R) (plan : Plan) (t : ℕ) (y : Cut) : Type 0 where
  pub on : On plan y.processor
  pub yes_with : m.accepts (timings (rows_at plan y.processor) ++ (y.timing ∷ [])) ≡ true
  pub tight : y.timing.deadline ≡ y.timing.budget
  pub period : y.timing.period ≡ t

-- a reservation (c, d, t) laid out on different processors that each take their part
pub record GoodLayout {R : Type 0} (m : Meaning R) (plan : Plan) (t c d : ℕ) (p : ℕ) (x : Timing) (cuts : List Cut) : Type 0 where
  pub on : On plan p
  pub yes_with : m.accepts (timings (rows_at plan p) ++ (x ∷ [])) ≡ true
  pub alone : Has (tail_processors cuts) p → ⊥
  pub apart : Distinct (tail_processors cuts)
  pub tails : AllByRecursion (GoodTail m plan t) cuts
  pub budget : x.budget + tail_budgets cuts ≡ c
  pub deadline : x.deadline + tail_budgets cuts ≡ d
  pub period : x.period ≡ t

-- a processor that is not used has no tail in either order of the tails
used_has : (cuts : List Cut) (p : ℕ) → Has (tail_processors cuts) p → used cuts p ≡ false → ⊥
used_has [] p has e = has_none p has
used_has (y ∷ cuts) p has e = ⊎_elim here (λ later. used_has cuts p later (rest (eqb y.processor p) e)) (has_cases y.processor (tail_processors cuts) p has)
  where
    rest : (b : Bool) → (b || used cuts p) ≡ false → used cuts p ≡ false
    rest true h = absurd (true≢false h)
    rest false h = h

    here : y.processor ≡ p → ⊥
    here same = true≢false (sym (ap (λ b. b || used cuts p) (eq-eqb y.processor p same)) ∙ e)

has_turned : {X : Type 0} (l r : List X) (y : X) → Has (reverse_aux l r) y → Has l y ⊎ Has r y
has_turned [] r y h = inr h
has_turned (x ∷ l) r y h = ⊎_elim (λ a. inl (has_there x l y a)) (λ b. ⊎_elim (λ e. inl (subst (Has (x ∷ l)) e (has_here x l))) inr (has_cases x r y b)) (has_turned l (x ∷ r) y h)

not_used : (cuts : List Cut) (p : ℕ) → used cuts p ≡ false → Has (tail_processors (reverse cuts)) p → ⊥
not_used cuts p e has =
    let z = has_of_map (λ y. y.processor) (reverse cuts) p has in
    ⊎_elim (λ a. used_has cuts p (subst (Has (tail_processors cuts)) z.2 (has_map (λ y. y.processor) cuts z.0 a)) e) (λ b. has_none z.0 b) (has_turned cuts [] z.0 z.1)

-- one more tail, set last, is served first
reverse_push : (cuts : List Cut) (y : Cut) → reverse (cuts ++ (y ∷ [])) ≡ y ∷ reverse cuts
reverse_push cuts y = reverse-append cuts (y ∷ [])

module _ {R : Type 0} (m : Meaning R) (law : Lawful m) (plan : Plan) (key : ℕ) where
  -- the tails set so far, in serving order
  pub record GoodCuts (t : ℕ) (cuts : List Cut) : Type 0 where
    pub apart : Distinct (tail_processors cuts)
    pub tails : AllByRecursion (GoodTail m plan t) cuts

  -- the one that is set
  abbrev newest : {cuts : List Cut} {x : Timing} {grown : List Cut} {head : Timing} → Sets m.before m.rank m.accepts m.allows plan key cuts x grown head → Cut
  newest s = record { processor = s.processor; timing = s.tail }

  turned : {cuts : List Cut} {x : Timing} {grown : List Cut} {head : Timing} (s : Sets m.before m.rank m.accepts m.allows plan key cuts x grown head)
      → reverse grown ≡ newest s ∷ reverse cuts
  turned {cuts} s = ap reverse s.grows ∙ reverse_push cuts (newest s)

  newest_good : {cuts : List Cut} {x : Timing} {grown : List Cut} {head : Timing} (s : Sets m.before m.rank m.accepts m.allows plan key cuts x grown head)
      → GoodTail m plan x.period (newest s)
  newest_good {cuts} {x} s =
      let rows = timings (rows_at plan s.processor) in
      let e = sym s.cut.tail_period in
      let offered : s.tail.budget ≡ m.allows rows s.tail.period (x.budget - 1) = subst (λ k. s.tail.budget ≡ m.allows rows k (x.budget - 1)) e (sym s.longest.budget) in
      record {
        on = record { from_one = s.longest.asked.vacant.low; to_last = s.longest.asked.vacant.high };
        yes_with = law.taken rows s.tail (x.budget - 1) offered (s.cut.tail_deadline ∙ offered);
        tight = s.cut.tail_deadline;
        period = s.cut.tail_period;
      }

  sets_good : {cuts : List Cut} {x : Timing} {grown : List Cut} {head : Timing} (s : Sets m.before m.rank m.accepts m.allows plan key cuts x grown head)
      → GoodCuts x.period (reverse cuts) → GoodCuts x.period (reverse grown)
  sets_good {cuts} {x} s good = subst (GoodCuts x.period) (sym (turned s)) (record {
    apart = (not_used cuts s.processor s.longest.asked.vacant.apart, good.apart);
    tails = (newest_good s, good.tails);
  })

  -- what is left and what is set stay the same in all
  sets_sum : {cuts : List Cut} {x : Timing} {grown : List Cut} {head : Timing} (s : Sets m.before m.rank m.accepts m.allows plan key cuts x grown head)
      → (head.budget + tail_budgets (reverse grown) ≡ x.budget + tail_budgets (reverse cuts)) × (head.deadline + tail_budgets (reverse grown) ≡ x.deadline + tail_budgets (reverse cuts))
  sets_sum {cuts} {x} {grown} {head} s =
      let e : tail_budgets (reverse grown) ≡ s.tail.budget + tail_budgets (reverse cuts) = ap tail_budgets (turned s) in
      (omega (arith, e, s.cut.head_budget), omega (arith, e, s.cut.head_deadline))

  rows_turned : (p : ℕ) (head : Timing) (ts : List Cut) (y : Cut) (rest : List Cut) → ts ≡ y ∷ rest → placed key p Kind.Head head ∷ tails key 1 ts ≡ layout_rows key (layout p head ts)
  rows_turned p head ts y rest e = subst (λ l. placed key p Kind.Head head ∷ tails key 1 l ≡ layout_rows key (layout p head l)) (sym e) refl

  -- where splitting ends in rows, they are those of a good layout
  pub splits_good : {cuts : List Cut} {x : Timing} {o : Option (List Placed)} → Splits m.before m.rank m.accepts m.allows plan key cuts x o
      → GoodCuts x.period (reverse cuts) → (rows : List Placed) → o ≡ Some rows
      → (p : ℕ) × (h : Timing) × (ts : List Cut) × GoodLayout m plan x.period (x.budget + tail_budgets (reverse cuts)) (x.deadline + tail_budgets (reverse cuts)) p h ts × (rows ≡ layout_rows key (layout p h ts))
  splits_good (ended none) good rows e = absurd (let z : ◌≡◌ {A = ℕ} 0 1 = cc in omega arith)
  splits_good (headed {cuts = cuts} {x = x} {rows = rows'} grown head p s first is) good rows e =
      let same : rows' ≡ rows = cc in
      let grew = sets_good s good in
      let sums = sets_sum s in (
        p,
        head,
        reverse grown,
        record {
          on = record { from_one = first.takes.vacant.low; to_last = first.takes.vacant.high };
          yes_with = first.takes.accepted;
          alone = not_used grown p first.takes.vacant.apart;
          apart = grew.apart;
          tails = grew.tails;
          budget = sums.0;
          deadline = sums.1;
          period = s.cut.head_period;
        },
        sym same ∙ is ∙ rows_turned p head (reverse grown) (newest s) (reverse cuts) (turned s),
      )
  splits_good (further {cuts = cuts} {x = x} {result = o} grown head s nobody rest) good rows e =
      let t = s.cut.head_period in
      let sums = sets_sum s in
      let r = splits_good rest (subst (λ k. GoodCuts k (reverse grown)) (sym t) (sets_good s good)) rows e in (
        r.0,
        r.1,
        r.2,
        subst (λ k. GoodLayout m plan k (x.budget + tail_budgets (reverse cuts)) (x.deadline + tail_budgets (reverse cuts)) r.0 r.1 r.2) t
            (subst₂ (λ c d. GoodLayout m plan head.period c d r.0 r.1 r.2) sums.0 sums.1 r.3),
        r.4,
      )

  -- above density one: what no place means
  pub none_dense : (x : Timing) → ((q : ℕ) → Takes m.accepts plan [] x q → ⊥) → (p : ℕ) → On plan p → length (rows_at plan p) < 32
      → scale < densities scale (timings (rows_at plan p) ++ (x ∷ []))
  none_dense x nobody p on free = elim (dec_le (densities scale list) scale) [ yes low ↦ absurd (refused low) | no high ↦ omega arith ]
    where
      list : List Timing
      list = timings (rows_at plan p) ++ (x ∷ [])

      few : length list ≤ 32
      few = rw (length-append (timings (rows_at plan p)) (x ∷ []), length-map (rows_at plan p) (λ r. r.timing)) (omega arith)

      refused : densities scale list ≤ scale → ⊥
      refused low = nobody p (record { vacant = record { low = on.from_one; high = on.to_last; room = free; apart = refl }; accepted = law.dense list few low })
