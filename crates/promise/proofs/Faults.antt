-- The first refusal that applies, test by test. Assumes nothing.
use Rattle.std.proofs.Common.{◌≡◌, ℕ, ◌+◌, ◌<◌, Bool, true, false, cond, not, ◌||◌, eqb, ltb, ◌⊎◌, List, Some, None, Option, sym, refl, ap, ◌∙◌, subst, inl, inr, arith, ltb-false, ltb-true, eqb-true}
use native.Mathlib.Decide.{dec_lt}
use borrow.Author.Tests.{eqb-false, both_ways}
use Rattle.model.specs.Refusal.{request_number}
use Rattle.model.specs.Limits.{timing_fault}
use Rattle.model.specs.declared.row.Row.{Row}
use Rattle.model.specs.declared.fault.RequestFault.{RequestFault}
use Rattle.board.specs.Keys.{stands, reservations}
use Rattle.board.specs.Request.{bad_key, standing_fault, or_fault, request_fault}
use Rattle.promise.specs.Admits.{Applies, FirstFault}

-- a refusal is known by its number
abbrev by_number : ℕ → RequestFault
by_number n =
    cond (eqb n 10) RequestFault.Key (cond (eqb n 11) RequestFault.Budget (cond (eqb n 12) RequestFault.Deadline
    (cond (eqb n 13) RequestFault.Period (cond (eqb n 14) RequestFault.Limit (cond (eqb n 15) RequestFault.Stands
    (cond (eqb n 16) RequestFault.Full RequestFault.NoPlace))))))

numbered : (f : RequestFault) → by_number (request_number f) ≡ f
numbered RequestFault.Key = refl
numbered RequestFault.Budget = refl
numbered RequestFault.Deadline = refl
numbered RequestFault.Period = refl
numbered RequestFault.Limit = refl
numbered RequestFault.Stands = refl
numbered RequestFault.Full = refl
numbered RequestFault.NoPlace = refl

or_cond : (b : Bool) (f : RequestFault) (x later : Option RequestFault) → or_fault (cond b (Some f) x) later ≡ cond b (Some f) (or_fault x later)
or_cond true f x later = refl
or_cond false f x later = refl

flipped : (b : Bool) (f : RequestFault) → cond b None (Some f) ≡ cond (not b) (Some f) None
flipped true f = refl
flipped false f = refl

not_yes : (b : Bool) → not b ≡ true → b ≡ false
not_yes false e = refl
not_yes true e = sym e

not_no : (b : Bool) → not b ≡ false → b ≡ true
not_no true e = refl
not_no false e = sym e

either_of : (a b : Bool) → a || b ≡ true → (a ≡ true) ⊎ (b ≡ true)
either_of true b e = inl refl
either_of false b e = inr e

neither_of : (a b : Bool) → a || b ≡ false → (a ≡ false) × (b ≡ false)
neither_of false b e = (refl, e)
neither_of true b e = absurd (both_ways true e refl)

module _ (key c d t : ℕ) (plan : List (List Row)) where
  abbrev Below : ℕ → Type 0
  Below k = (other : RequestFault) → request_number other < k → Applies key c d t plan other → ⊥

  abbrev pub Verdict : Option RequestFault → Type 0
  Verdict (Some f) = FirstFault key c d t plan f
  Verdict None = (f : RequestFault) → Applies key c d t plan f → ⊥

  more : (f : RequestFault) (k : ℕ) → request_number f ≡ k → Below k → (Applies key c d t plan f → ⊥) → Below (k + 1)
  more f k e below never other h applies =
      elim (dec_lt (request_number other) k) [
        | yes less ↦ below other less applies
        | no reached ↦
            let same : request_number other ≡ request_number f = omega arith in
            never (subst (Applies key c d t plan) (sym (numbered other) ∙ ap by_number same ∙ numbered f) applies)
      ]

  -- one test of the chain
  test :
      (f : RequestFault) (k : ℕ) (b : Bool) (rest : Option RequestFault) → request_number f ≡ k → Below k →
      (b ≡ true → Applies key c d t plan f) → (b ≡ false → Applies key c d t plan f → ⊥) → (Below (k + 1) → Verdict rest) →
      Verdict (cond b (Some f) rest)
  test f k true rest e below so never next = record { applies = so refl; none_before = subst Below (sym e) below }
  test f k false rest e below so never next = next (more f k e below (never refl))

  key_bad : bad_key key ≡ true → Applies key c d t plan RequestFault.Key
  key_bad e = elim (either_of (ltb key 1) (ltb 65535 key) e) [ inl h ↦ inl (ltb-true key 1 h) | inr h ↦ inr (ltb-true 65535 key h) ]

  key_good : bad_key key ≡ false → Applies key c d t plan RequestFault.Key → ⊥
  key_good e (inl h) = let g = ltb-false key 1 (neither_of (ltb key 1) (ltb 65535 key) e).0 in omega arith
  key_good e (inr h) = let g = ltb-false 65535 key (neither_of (ltb key 1) (ltb 65535 key) e).1 in omega arith

  none_left : Below 17 → Verdict None
  none_left below RequestFault.Key h = below RequestFault.Key (omega arith) h
  none_left below RequestFault.Budget h = below RequestFault.Budget (omega arith) h
  none_left below RequestFault.Deadline h = below RequestFault.Deadline (omega arith) h
  none_left below RequestFault.Period h = below RequestFault.Period (omega arith) h
  none_left below RequestFault.Limit h = below RequestFault.Limit (omega arith) h
  none_left below RequestFault.Stands h = below RequestFault.Stands (omega arith) h
  none_left below RequestFault.Full h = below RequestFault.Full (omega arith) h
  none_left below RequestFault.NoPlace h = h

  nothing_first : Below 10
  nothing_first RequestFault.Key h = absurd (omega arith)
  nothing_first RequestFault.Budget h = absurd (omega arith)
  nothing_first RequestFault.Deadline h = absurd (omega arith)
  nothing_first RequestFault.Period h = absurd (omega arith)
  nothing_first RequestFault.Limit h = absurd (omega arith)
  nothing_first RequestFault.Stands h = absurd (omega arith)
  nothing_first RequestFault.Full h = absurd (omega arith)
  nothing_first RequestFault.NoPlace h = absurd (omega arith)

  standing : Below 15 → Verdict (standing_fault key plan)
  standing below =
      test RequestFault.Stands 15 (stands key plan) (cond (ltb (reservations plan) 64) None (Some RequestFault.Full)) refl below
      (λ e. e) (λ e h. both_ways (stands key plan) e h)
      (λ below. subst Verdict (sym (flipped (ltb (reservations plan) 64) RequestFault.Full))
      (test RequestFault.Full 16 (not (ltb (reservations plan) 64)) None refl below
      (λ e. ltb-false (reservations plan) 64 (not_yes (ltb (reservations plan) 64) e))
      (λ e h. let g = ltb-true (reservations plan) 64 (not_no (ltb (reservations plan) 64) e) in omega arith)
      none_left))

  limits : Below 11 → Verdict (or_fault (timing_fault c d t) (standing_fault key plan))
  limits below =
      let later = standing_fault key plan in
      let last : Option RequestFault = cond (ltb 100000 t) (Some RequestFault.Limit) None in
      let third : Option RequestFault = cond (ltb t d) (Some RequestFault.Period) last in
      let second : Option RequestFault = cond (ltb d c) (Some RequestFault.Deadline) third in
      subst Verdict (sym (or_cond (eqb c 0) RequestFault.Budget second later))
      (test RequestFault.Budget 11 (eqb c 0) (or_fault second later) refl below (eqb-true c 0) (eqb-false c 0)
      (λ below. subst Verdict (sym (or_cond (ltb d c) RequestFault.Deadline third later))
      (test RequestFault.Deadline 12 (ltb d c) (or_fault third later) refl below (ltb-true d c) (λ e h. let g = ltb-false d c e in omega arith)
      (λ below. subst Verdict (sym (or_cond (ltb t d) RequestFault.Period last later))
      (test RequestFault.Period 13 (ltb t d) (or_fault last later) refl below (ltb-true t d) (λ e h. let g = ltb-false t d e in omega arith)
      (λ below. subst Verdict (sym (or_cond (ltb 100000 t) RequestFault.Limit None later))
      (test RequestFault.Limit 14 (ltb 100000 t) (or_fault None later) refl below (ltb-true 100000 t) (λ e h. let g = ltb-false 100000 t e in omega arith)
      standing)))))))

  pub verdict : Verdict (request_fault key c d t plan)
  verdict =
      test RequestFault.Key 10 (bad_key key) (or_fault (timing_fault c d t) (standing_fault key plan)) refl nothing_first key_bad key_good limits
