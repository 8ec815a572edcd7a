-- The chains of an image are determined by its heads and nexts. Assumes nothing.
use Rattle.std.proofs.Common.{◌≡◌, ℕ, suc, ◌+◌, ◌<◌, ◌≤◌, ◌⊎◌, List, [], ◌∷◌, ◌++◌, length, Ok, Err, Result, sym, refl, ap, ◌∙◌, subst, inl, inr, ⊎_elim, append_assoc, arith}
use Rattle.std.proofs.lemmas.List.{append-nil}
use Rattle.std.proofs.lemmas.Bool.{cases_order}
use Rattle.store.specs.declared.fault.BufferFault.{BufferFault}
use Rattle.store.specs.declared.fault.BufferRule.{BufferRule}
use Rattle.store.specs.Fault.{fault}
use Rattle.store.specs.Chains.{chains}
use Rattle.store.specs.Loading.{ChainFrom, Sound, Sounds, Lies, Stuck, LeftOver, occurs, all_of}
use Rattle.store.proofs.Lying.{ChainsLie, chains_lie}

-- from a number there is one chain
chain_one : (next : ℕ → ℕ) {n m : ℕ} {k l : List ℕ} → ChainFrom next n k → ChainFrom next m l → n ≡ m → k ≡ l
chain_one next ChainFrom.ends ChainFrom.ends e = refl
chain_one next ChainFrom.ends (ChainFrom.goes low rest) e = absurd (omega arith)
chain_one next (ChainFrom.goes low rest) ChainFrom.ends e = absurd (omega arith)
chain_one next (ChainFrom.goes low rest) (ChainFrom.goes low' rest') e =
    let t = chain_one next rest rest' (ap next e) in λ i. e i ∷ t i

module _ (head next : ℕ → ℕ) (r : ℕ) where
  -- where more chains are sound than these, the next one is
  sounds_next :
      (p : ℕ) (before : List ℕ) (ls longer : List (List ℕ)) → length ls < length longer →
      Sounds head next r p before ls → Sounds head next r p before longer →
      (chain : List ℕ) × Sound next r (before ++ all_of ls) (head (p + length ls)) chain
  sounds_next p before [] [] h s t = absurd (omega arith)
  sounds_next p before [] (c ∷ longer) h s t =
      let here : p ≡ p + 0 = omega arith in (
        c,
        subst (λ q. Sound next r q (head (p + 0)) c) (sym (append-nil before)) (subst (λ n. Sound next r before (head n) c) here t.0),
      )
  sounds_next p before (l ∷ ls) [] h s t = absurd (omega arith)
  sounds_next p before (l ∷ ls) (c ∷ longer) h s t =
      let same : l ≡ c = chain_one next s.0.along t.0.along refl in
      let more =
      sounds_next (p + 1) (before ++ l) ls longer (omega arith) s.1
      (subst (λ q. Sounds head next r (p + 1) (before ++ q) longer) (sym same) t.1) in
      let sums : p + 1 + length ls ≡ p + suc (length ls) = omega arith in (
        more.0,
        subst (λ q. Sound next r q (head (p + suc (length ls))) more.0) (append_assoc before l (all_of ls))
            (subst (λ n. Sound next r ((before ++ l) ++ all_of ls) (head n) more.0) sums more.1),
      )

  sounds_one :
      (p : ℕ) (before : List ℕ) (ks ls : List (List ℕ)) → length ks ≡ length ls →
      Sounds head next r p before ks → Sounds head next r p before ls → ks ≡ ls
  sounds_one p before [] [] h s t = refl
  sounds_one p before [] (l ∷ ls) h s t = absurd (omega arith)
  sounds_one p before (k ∷ ks) [] h s t = absurd (omega arith)
  sounds_one p before (k ∷ ks) (l ∷ ls) h s t =
      let same : k ≡ l = chain_one next s.0.along t.0.along refl in
      let rest =
      sounds_one (p + 1) (before ++ k) ks ls (omega arith) s.1 (subst (λ q. Sounds head next r (p + 1) (before ++ q) ls) (sym same) t.1) in
      λ i. same i ∷ rest i

  -- where a chain is not sound, there are no more sound chains than those before it
  stuck_most : (m p : ℕ) → (s : Stuck head next m r p) → (ls : List (List ℕ)) → Sounds head next r 0 [] ls → length s.chains < length ls → ⊥
  stuck_most m p s ls sound h =
      let here : 0 + length s.chains ≡ length s.chains = omega arith in
      let more = sounds_next 0 [] s.chains ls h s.sound sound in
      s.stuck more.0 (subst (λ n. Sound next r (all_of s.chains) (head n) more.0) here more.1)

  module _ (m : ℕ) where
    Refused : BufferFault → Type 0
    Refused f = ((p : ℕ) × (f ≡ fault BufferRule.Chains p) × Stuck head next m r p) ⊎ ((f ≡ fault BufferRule.Chains 0) × LeftOver head next m r)

    lies_or : (l : List (List ℕ)) (f : BufferFault) → Lies head next m r l → Refused f → ⊥
    unfolding Refused
    lies_or l f lies (inl s) =
        stuck_most m s.0 s.2 l lies.sound (omega (arith, s.2.is, s.2.within, lies.count))
    lies_or l f lies (inr o) =
        let over = o.1 in
        let same = sounds_one 0 [] over.chains l (over.count ∙ sym lies.count) over.sound lies.sound in
        let n = over.over.0 in
        omega (arith, over.over.3, ap (λ q. occurs n (all_of q)) same, lies.once n over.over.1 over.over.2)

    refused_one : (f g : BufferFault) → Refused f → Refused g → f ≡ g
    unfolding Refused
    refused_one f g (inl s) (inl t) =
        ⊎_elim
        (λ (same : length s.2.chains ≡ length t.2.chains).
        let e : s.0 ≡ t.0 = omega (arith, s.2.is, t.2.is) in s.1 ∙ ap (fault BufferRule.Chains) e ∙ sym t.1)
        (λ o. absurd (⊎_elim
        (λ (less : length s.2.chains < length t.2.chains). stuck_most m s.0 s.2 t.2.chains t.2.sound less)
        (λ (more : length t.2.chains < length s.2.chains). stuck_most m t.0 t.2 s.2.chains s.2.sound more) o))
        (cases_order (length s.2.chains) (length t.2.chains))
    refused_one f g (inl s) (inr o) =
        absurd (stuck_most m s.0 s.2 o.1.chains o.1.sound (omega (arith, s.2.is, s.2.within, o.1.count)))
    refused_one f g (inr o) (inl s) =
        absurd (stuck_most m s.0 s.2 o.1.chains o.1.sound (omega (arith, s.2.is, s.2.within, o.1.count)))
    refused_one f g (inr o) (inr q) = o.0 ∙ sym q.0

    lie_one : (w v : Result (List (List ℕ)) BufferFault) → ChainsLie head next m r w → ChainsLie head next m r v → w ≡ v
    unfolding Refused
    lie_one (Ok l) (Ok k) s t = ap Ok (sounds_one 0 [] l k (s.count ∙ sym t.count) s.sound t.sound)
    lie_one (Ok l) (Err f) s t = absurd (lies_or l f s t)
    lie_one (Err f) (Ok l) s t = absurd (lies_or l f t s)
    lie_one (Err f) (Err g) s t = ap Err (refused_one f g s t)

    pub chains_are : r ≤ 256 → (w : Result (List (List ℕ)) BufferFault) → ChainsLie head next m r w → chains head next m r ≡ w
    chains_are few w lie = lie_one (chains head next m r) w (chains_lie head next m r few) lie
