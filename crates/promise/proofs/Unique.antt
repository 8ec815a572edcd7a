-- An admission has one answer and one plan afterwards: its rules allow no two. Assumes nothing.
use Rattle.std.proofs.Common.{◌≡◌, ℕ, ◌-◌, ◌<◌, Bool, true, false, ◌⊎◌, List, [], ◌∷◌, ◌++◌, get_or, ℤ, Some, None, Err, Option, Result, sym, refl, ap, ◌∙◌, subst, subst₂, inl, inr, true≢false, arith}
use native.Mathlib.Decide.{ℕ_discrete, dec_lt}
use Rattle.model.specs.Row.{timings}
use Rattle.model.specs.Refusal.{request_number}
use Rattle.model.specs.declared.timing.Timing.{Timing}
use Rattle.model.specs.declared.row.Kind.{Kind}
use Rattle.model.specs.declared.row.Row.{Row}
use Rattle.model.specs.declared.fault.RequestFault.{RequestFault}
use Rattle.board.specs.declared.cut.Cut.{Cut}
use Rattle.board.specs.declared.admission.Placed.{Placed}
use Rattle.board.specs.Split.{placed, split_rows}
use Rattle.board.specs.Admit.{found_place, after}
use Rattle.board.proofs.Timed.{made}
use Rattle.promise.specs.Choosing.{rows_at, rank_at, Takes, FirstTaker, LongestTail, NoTail}
use Rattle.promise.specs.Admits.{FirstFault, Newcomer, Sets, Splits, ended, headed, further, Admits, refused, whole, split, no_place}

-- a timing is known by its numbers
same_timing : (x y : Timing) → x.budget ≡ y.budget → x.deadline ≡ y.deadline → x.period ≡ y.period → x ≡ y
same_timing x y b d t =
    let both : ◌≡◌ {A = Option Timing} (Some x) (Some y) =
    made x y.budget y.deadline y.period b d t ∙ sym (made y y.budget y.deadline y.period refl refl refl) in
    let same : x ≡ y = cc in same

-- a refusal is known by its number
abbrev by_number : ℕ → RequestFault
by_number n =
    get_or (RequestFault.Key ∷ RequestFault.Budget ∷ RequestFault.Deadline ∷ RequestFault.Period ∷ RequestFault.Limit ∷ RequestFault.Stands ∷ RequestFault.Full ∷ [])
    (n - 10) RequestFault.NoPlace

numbered : (f : RequestFault) → by_number (request_number f) ≡ f
numbered RequestFault.Key = refl
numbered RequestFault.Budget = refl
numbered RequestFault.Deadline = refl
numbered RequestFault.Period = refl
numbered RequestFault.Limit = refl
numbered RequestFault.Stands = refl
numbered RequestFault.Full = refl
numbered RequestFault.NoPlace = refl

-- one refusal is the first: of two, none has the lower number
fault_unique : (key c d t : ℕ) (plan : List (List Row)) (f g : RequestFault) → FirstFault key c d t plan f → FirstFault key c d t plan g → f ≡ g
fault_unique key c d t plan f g h k = sym (numbered f) ∙ ap by_number level ∙ numbered g
  where
    level : request_number f ≡ request_number g
    level =
        elim (ℕ_discrete (request_number f) (request_number g)) [
          | yes e ↦ e
          | no apart ↦ absurd (elim (dec_lt (request_number f) (request_number g)) [
            | yes less ↦ k.none_before f less h.applies
            | no ge ↦ h.none_before g (omega arith) k.applies
          ])
        ]

module _ {R : Type 0} (first : R → R → Bool) (ranks : ℕ → ℤ → ℕ → R) (accepts : List Timing → Bool) (allows : List Timing → ℕ → ℕ → ℕ)
    (plan : List (List Row)) (key : ℕ)
    (chain : (a b c : R) → first a b ≡ true → first b c ≡ true → first a c ≡ true)
    (apart : (a : R) → first a a ≡ false) where
  -- no rank comes before an equal one, and of two ranks not each comes before the other
  not_equal : (a b : R) → a ≡ b → first a b ≡ true → ⊥
  not_equal a b e h = true≢false (sym (subst (λ c. first a c ≡ true) (sym e) h) ∙ apart a)

  one_way : (a b : R) → first a b ≡ true → first b a ≡ true → ⊥
  one_way a b h k = not_equal a a refl (chain a b a h k)

  abbrev rank : ℕ → R
  rank = rank_at ranks plan

  -- one processor is the first that takes x
  first_unique : (cuts : List Cut) (x : Timing) (p q : ℕ) → FirstTaker first ranks accepts plan cuts x p → FirstTaker first ranks accepts plan cuts x q → p ≡ q
  first_unique cuts x p q h k =
      elim (ℕ_discrete p q) [ yes e ↦ e | no differ ↦ absurd (clash (h.ahead q k.takes (λ e. differ (sym e))) (k.ahead p h.takes differ)) ]
    where
      clash : (first (rank p) (rank q) ≡ true) ⊎ ((rank p ≡ rank q) × (p < q)) → (first (rank q) (rank p) ≡ true) ⊎ ((rank q ≡ rank p) × (q < p)) → ⊥
      clash (inl a) (inl b) = one_way (rank p) (rank q) a b
      clash (inl a) (inr b) = not_equal (rank p) (rank q) (sym b.0) a
      clash (inr a) (inl b) = not_equal (rank q) (rank p) (sym a.0) b
      clash (inr a) (inr b) = omega (arith, a.1, b.1)

  abbrev allowed : ℕ → ℕ → ℕ → ℕ
  allowed t c p = allows (timings (rows_at plan p)) t c

  -- one processor allows the longest tail
  longest_unique : (cuts : List Cut) (t c p q a b : ℕ) → LongestTail allows plan cuts t c p a → LongestTail allows plan cuts t c q b → (p ≡ q) × (a ≡ b)
  longest_unique cuts t c p q a b h k =
      (at, sym h.budget ∙ ap (allowed t c) at ∙ k.budget)
    where
      clash : (allowed t c q < a) ⊎ ((allowed t c q ≡ a) × (p < q)) → (allowed t c p < b) ⊎ ((allowed t c p ≡ b) × (q < p)) → ⊥
      clash (inl l) (inl m) = omega (arith, l, m, h.budget, k.budget)
      clash (inl l) (inr m) = omega (arith, l, m.0, h.budget, k.budget)
      clash (inr l) (inl m) = omega (arith, l.0, m, h.budget, k.budget)
      clash (inr l) (inr m) = omega (arith, l.1, m.1)

      at : p ≡ q
      at = elim (ℕ_discrete p q) [ yes e ↦ e | no differ ↦ absurd (clash (h.most q k.asked (λ e. differ (sym e))) (k.most p h.asked differ)) ]

  -- one tail is set, and one head is left
  sets_unique :
      (cuts : List Cut) (x : Timing) (f g : List Cut) (y z : Timing) →
      Sets first ranks accepts allows plan key cuts x f y → Sets first ranks accepts allows plan key cuts x g z → (f ≡ g) × (y ≡ z)
  sets_unique cuts x f g y z h k =
      let one = longest_unique cuts x.period (x.budget - 1) h.processor k.processor h.tail.budget k.tail.budget h.longest k.longest in
      let size : h.tail.budget ≡ k.tail.budget = one.1 in
      let tail : h.tail ≡ k.tail =
      same_timing h.tail k.tail size (h.cut.tail_deadline ∙ size ∙ sym k.cut.tail_deadline) (h.cut.tail_period ∙ sym k.cut.tail_period) in
      let head : y ≡ z =
      same_timing y z (omega (arith, size, h.cut.head_budget, k.cut.head_budget)) (omega (arith, size, h.cut.head_deadline, k.cut.head_deadline))
      (h.cut.head_period ∙ sym k.cut.head_period) in
      let part : ◌≡◌ {A = Cut} (record { processor = h.processor; timing = h.tail }) (record { processor = k.processor; timing = k.tail }) =
      λ i. record { processor = one.0 i; timing = tail i } in
      (h.grows ∙ ap (λ (w : Cut). cuts ++ (w ∷ [])) part ∙ sym k.grows, head)

  -- a tail is set only where one is allowed
  sets_some :
      (cuts : List Cut) (x : Timing) (f : List Cut) (y : Timing) →
      Sets first ranks accepts allows plan key cuts x f y → NoTail allows plan cuts x.period (x.budget - 1) → ⊥
  sets_some cuts x f y h none = omega (arith, h.longest.budget, h.longest.some, none h.processor h.longest.asked)

  abbrev So : List Cut → Timing → Option (List Placed) → Type 0
  So = Splits first ranks accepts allows plan key

  -- one result comes of splitting x
  splits_unique : {cuts : List Cut} {x : Timing} {o : Option (List Placed)} → So cuts x o → (r : Option (List Placed)) → So cuts x r → o ≡ r
  splits_unique (ended {cuts = cuts} {x = x} none) r other = against other
    where
      against : {r : Option (List Placed)} → So cuts x r → None ≡ r
      against (ended none') = refl
      against (headed g z q sets took is) = absurd (sets_some cuts x g z sets none)
      against (further g z sets nobody rest) = absurd (sets_some cuts x g z sets none)
  splits_unique (headed {cuts = cuts} {x = x} {rows = rows} f y p sets took is) r other = against other
    where
      against : {r : Option (List Placed)} → So cuts x r → Some rows ≡ r
      against (ended none) = absurd (sets_some cuts x f y sets none)
      against (headed {rows = rows'} g z q sets' took' is') =
          let same = sets_unique cuts x f g y z sets sets' in
          let at : p ≡ q = first_unique f y p q took (subst₂ (λ (w : List Cut) (v : Timing). FirstTaker first ranks accepts plan w v q) (sym same.0) (sym same.1) took') in
          let alike : split_rows key p y f ≡ split_rows key q z g = λ i. split_rows key (at i) (same.1 i) (same.0 i) in
          ap Some (is ∙ alike ∙ sym is')
      against (further g z sets' nobody rest) =
          let same = sets_unique cuts x f g y z sets sets' in
          absurd (nobody p (subst₂ (λ (w : List Cut) (v : Timing). Takes accepts plan w v p) same.0 same.1 took.takes))
  splits_unique (further {cuts = cuts} {x = x} {result = o} f y sets nobody rest) r other = against other (splits_unique rest)
    where
      against : {r : Option (List Placed)} → So cuts x r → ((s : Option (List Placed)) → So f y s → o ≡ s) → o ≡ r
      against (ended none) ih = absurd (sets_some cuts x f y sets none)
      against (headed g z q sets' took is) ih =
          let same = sets_unique cuts x f g y z sets sets' in
          absurd (nobody q (subst₂ (λ (w : List Cut) (v : Timing). Takes accepts plan w v q) (sym same.0) (sym same.1) took.takes))
      against (further {result = s} g z sets' nobody' rest') ih =
          let same = sets_unique cuts x f g y z sets sets' in
          ih s (subst₂ (λ (w : List Cut) (v : Timing). So w v s) (sym same.0) (sym same.1) rest')

  -- where a newcomer goes: whole to the first that takes it, or in parts where nobody does
  abbrev Goes : Timing → Option (List Placed) → Type 0
  Goes x o =
      ((p : ℕ) × FirstTaker first ranks accepts plan [] x p × (o ≡ Some (placed key p Kind.Whole x ∷ [])))
      ⊎ (((q : ℕ) → Takes accepts plan [] x q → ⊥) × So [] x o)

  goes_unique : (x : Timing) (o r : Option (List Placed)) → Goes x o → Goes x r → o ≡ r
  goes_unique x o r (inl h) (inl k) =
      h.2 ∙ ap (λ p. Some (placed key p Kind.Whole x ∷ [])) (first_unique [] x h.0 k.0 h.1 k.1) ∙ sym k.2
  goes_unique x o r (inl h) (inr k) = absurd (k.0 h.0 h.1.takes)
  goes_unique x o r (inr h) (inl k) = absurd (h.0 k.0 k.1.takes)
  goes_unique x o r (inr h) (inr k) = splits_unique h.1 r k.1

  module _ (c d t : ℕ) where
    -- an admission is refused for the first fault, or answered by where the newcomer goes
    abbrev Refused : Result (List Placed) RequestFault → List (List Row) → Type 0
    Refused a p = (f : RequestFault) × FirstFault key c d t plan f × (a ≡ Err f) × (p ≡ plan)

    abbrev Answered : Result (List Placed) RequestFault → List (List Row) → Type 0
    Answered a p =
        (x : Timing) × (o : Option (List Placed)) × Newcomer key c d t plan x × Goes x o × (a ≡ found_place o) × (p ≡ after plan (found_place o))

    either_way : (a : Result (List Placed) RequestFault) (p : List (List Row)) → Admits first ranks accepts allows plan key c d t a p → Refused a p ⊎ Answered a p
    either_way a p (refused fault h is last) = inl (fault, h, is, last)
    either_way a p (whole x q new took is last) = inr (x, Some (placed key q Kind.Whole x ∷ []), new, inl (q, took, refl), is, last)
    either_way a p (split x rows new nobody so is last) = inr (x, Some rows, new, inr (nobody, so), is, last)
    either_way a p (no_place x new nobody so is last) = inr (x, None, new, inr (nobody, so), is, last)

    same_answer : (a b : Result (List Placed) RequestFault) (p q : List (List Row)) → Refused a p ⊎ Answered a p → Refused b q ⊎ Answered b q → (a ≡ b) × (p ≡ q)
    same_answer a b p q (inl h) (inl k) = (h.2 ∙ ap Err (fault_unique key c d t plan h.0 k.0 h.1 k.1) ∙ sym k.2, h.3 ∙ sym k.3)
    same_answer a b p q (inl h) (inr k) = absurd (k.2.faultless h.0 h.1.applies)
    same_answer a b p q (inr h) (inl k) = absurd (h.2.faultless k.0 k.1.applies)
    same_answer a b p q (inr h) (inr k) =
        let x : h.0 ≡ k.0 =
        same_timing h.0 k.0 (h.2.budget ∙ sym k.2.budget) (h.2.deadline ∙ sym k.2.deadline) (h.2.period ∙ sym k.2.period) in
        let o : h.1 ≡ k.1 = goes_unique h.0 h.1 k.1 h.3 (subst (λ y. Goes y k.1) (sym x) k.3) in
        (h.4 ∙ ap found_place o ∙ sym k.4, h.5 ∙ ap (λ r. after plan (found_place r)) o ∙ sym k.5)

    pub admits_unique :
        (a b : Result (List Placed) RequestFault) (p q : List (List Row)) →
        Admits first ranks accepts allows plan key c d t a p → Admits first ranks accepts allows plan key c d t b q → (a ≡ b) × (p ≡ q)
    admits_unique a b p q h k = same_answer a b p q (either_way a p h) (either_way b q k)
