-- The chains that are followed are chains in the words of the format, and each record lies on just one. Assumes nothing.
use Rattle.std.proofs.Common.{◌≡◌, ℕ, zero, suc, ◌+◌, ◌-◌, ◌<◌, ◌≤◌, Bool, true, false, cond, eqb, ltb, ◌≢◌, ◌⊎◌, List, [], ◌∷◌, ◌++◌, length, get_or, take, replicate, Some, None, Ok, Err, Option, Result, sym, refl, ap, ◌∙◌, subst, inl, inr, ⊎_elim, append_assoc, arith, length-set, get_or-set_other, get_or-set_same}
use lib.ListN.{length-replicate}
use Rattle.std.specs.List.{AllByRecursion}
use Rattle.std.proofs.ByRecursion.{All-weaker}
use Rattle.std.proofs.lemmas.List.{append-nil, get_or-replicate, get_or-take, length-take-le}
use Rattle.std.proofs.lemmas.Bool.{cond_both, eqb-true, eqb-false, eq-eqb, ne_eqb, ltb-false, le-ltb, or_parts, or_from, and_parts, cases_eq}
use Rattle.store.specs.declared.fault.BufferFault.{BufferFault}
use Rattle.store.specs.declared.fault.BufferRule.{BufferRule}
use Rattle.store.specs.Fault.{fault}
use Rattle.store.specs.Chains.{barred, reach, walk, walks, sound_or, all_true, covered, chains}
use Rattle.store.specs.Loading.{ChainFrom, Sound, Sounds, Lies, Stuck, LeftOver, occurs, all_of}
use Rattle.store.proofs.Walks.{walk_done, walk_suc}
use Rattle.store.proofs.Reaches.{WalkNumbered, walk_numbered}
use Rattle.store.proofs.LoadedPlans.{WalkShort, walk_short, WalksSized, walks_sized}

-- what a walk that ends has followed
abbrev WalkFrom : (ℕ → ℕ) → ℕ → List ℕ → Option (List ℕ × List Bool) → Type 0
WalkFrom next number so_far (Some w) = (l : List ℕ) × (w.0 ≡ so_far ++ l) × ChainFrom next number l
WalkFrom next number so_far None = Unit {0}

walk_longer :
    (next : ℕ → ℕ) (number : ℕ) (so_far : List ℕ) (o : Option (List ℕ × List Bool)) → 1 ≤ number →
    WalkFrom next (next number) (so_far ++ (number ∷ [])) o → WalkFrom next number so_far o
walk_longer next number so_far None h t = tt
walk_longer next number so_far (Some w) h t =
    (number ∷ t.0, t.1 ∙ append_assoc so_far (number ∷ []) t.0, ChainFrom.goes h t.2)

walk_from :
    (next : ℕ → ℕ) (r room number : ℕ) (so_far : List ℕ) (reached : List Bool) →
    WalkFrom next number so_far (walk next r room number so_far reached)
unfolding walk
walk_from next r zero number so_far reached =
    cond_both (eqb number 0) (Some (so_far, reached)) None (WalkFrom next number so_far)
    (λ z. ([], sym (append-nil so_far), subst (λ n. ChainFrom next n []) (sym (eqb-true number 0 z)) ChainFrom.ends)) (λ _. tt)
walk_from next r (suc room) number so_far reached =
    let rest = walk next r room (next number) (so_far ++ (number ∷ [])) (reach reached number) in
    cond_both (eqb number 0) (Some (so_far, reached)) (cond (barred r reached number) None rest) (WalkFrom next number so_far)
    (λ z. ([], sym (append-nil so_far), subst (λ n. ChainFrom next n []) (sym (eqb-true number 0 z)) ChainFrom.ends))
    (λ nz. cond_both (barred r reached number) None rest (WalkFrom next number so_far) (λ _. tt)
    (λ _. walk_longer next number so_far rest (omega (arith, eqb-false number 0 nz))
    (walk_from next r room (next number) (so_far ++ (number ∷ [])) (reach reached number))))

-- the flags say how often each record was reached
abbrev one_if : Bool → ℕ
one_if b = cond b 1 0

abbrev Counted : List ℕ → List Bool → Type 0
Counted seen reached = (length reached ≡ 256) × ((n : ℕ) → 1 ≤ n → n ≤ 256 → occurs n seen ≡ one_if (get_or reached (n - 1) false))

occurs_append : (n : ℕ) (a b : List ℕ) → occurs n (a ++ b) ≡ occurs n a + occurs n b
occurs_append n [] b = omega arith
occurs_append n (x ∷ a) b = omega (arith, occurs_append n a b)

counted_more :
    (seen : List ℕ) (reached : List Bool) (number : ℕ) → 1 ≤ number → number ≤ 256 → get_or reached (number - 1) false ≡ false →
    Counted seen reached → Counted (seen ++ (number ∷ [])) (reach reached number)
counted_more seen reached number low high free c = (
  length-set reached (number - 1) true ∙ c.0,
  λ n h k.
      ⊎_elim
      (λ (same : number ≡ n).
      let was : get_or reached (n - 1) false ≡ false = ap (λ q. get_or reached (q - 1) false) (sym same) ∙ free in
      let now' : get_or (reach reached number) (n - 1) false ≡ true =
      ap (λ q. get_or (reach reached number) (q - 1) false) (sym same) ∙ get_or-set_same reached (number - 1) true false (omega (arith, c.0)) in
      let a : occurs n seen ≡ 0 = c.1 n h k ∙ ap one_if was in
      let b : one_if (eqb number n) ≡ 1 = ap one_if (eq-eqb number n same) in
      let d : one_if (get_or (reach reached number) (n - 1) false) ≡ 1 = ap one_if now' in
      omega (arith, occurs_append n seen (number ∷ [])))
      (λ (other : number ≡ n → ⊥).
      let ne : n - 1 ≢ number - 1 = λ e. other (omega arith) in
      let d : one_if (get_or (reach reached number) (n - 1) false) ≡ one_if (get_or reached (n - 1) false) =
      ap one_if (get_or-set_other reached (number - 1) (n - 1) true false ne) in
      let b : one_if (eqb number n) ≡ 0 = ap one_if (ne_eqb number n other) in
      let a = c.1 n h k in
      omega (arith, occurs_append n seen (number ∷ [])))
      (cases_eq number n),
)

abbrev WalkCounted : List ℕ → Option (List ℕ × List Bool) → Type 0
WalkCounted seen (Some w) = Counted (seen ++ w.0) w.1
WalkCounted seen None = Unit {0}

walk_counted :
    (seen : List ℕ) (next : ℕ → ℕ) (r room number : ℕ) (so_far : List ℕ) (reached : List Bool) → r ≤ 256 → Counted (seen ++ so_far) reached →
    WalkCounted seen (walk next r room number so_far reached)
unfolding walk
walk_counted seen next r zero number so_far reached few c =
    cond_both (eqb number 0) (Some (so_far, reached)) None (WalkCounted seen) (λ _. c) (λ _. tt)
walk_counted seen next r (suc room) number so_far reached few c =
    let rest = walk next r room (next number) (so_far ++ (number ∷ [])) (reach reached number) in
    cond_both (eqb number 0) (Some (so_far, reached)) (cond (barred r reached number) None rest) (WalkCounted seen) (λ _. c)
    (λ nz. cond_both (barred r reached number) None rest (WalkCounted seen) (λ _. tt)
    (λ b.
    let parts = or_parts (ltb r number) (get_or reached (number - 1) false) b in
    let low : 1 ≤ number = omega (arith, eqb-false number 0 nz) in
    let high : number ≤ r = ltb-false r number parts.0 in
    walk_counted seen next r room (next number) (so_far ++ (number ∷ [])) (reach reached number) few
    (subst (λ l. Counted l (reach reached number)) (append_assoc seen so_far (number ∷ []))
    (counted_more (seen ++ so_far) reached number low (omega arith) parts.1 c))))

-- a walk that ends is a sound chain
abbrev WalkSound : (ℕ → ℕ) → ℕ → List ℕ → ℕ → Option (List ℕ × List Bool) → Type 0
WalkSound next r before head (Some w) = Sound next r before head w.0 × Counted (before ++ w.0) w.1
WalkSound next r before head None = (chain : List ℕ) → Sound next r before head chain → ⊥

one_if_le : (b : Bool) → one_if b ≤ 1
one_if_le true = omega arith
one_if_le false = omega arith

one_if_none : (b : Bool) → one_if b ≡ 0 → b ≡ false
one_if_none true e = absurd (omega arith)
one_if_none false e = refl

-- a chain that is sound is walked to its end
walk_complete :
    (next : ℕ → ℕ) (r : ℕ) (before : List ℕ) {number : ℕ} {l : List ℕ} → ChainFrom next number l →
    (room : ℕ) (so_far : List ℕ) (reached : List Bool) → r ≤ 256 → length l ≤ room → AllByRecursion (λ n. n ≤ r) l → Counted (before ++ so_far) reached →
    ((n : ℕ) → 1 ≤ n → n ≤ r → occurs n ((before ++ so_far) ++ l) ≤ 1) → walk next r room number so_far reached ≡ None → ⊥
walk_complete next r before ChainFrom.ends room so_far reached few fits within counted fresh none =
    let done = walk_done next r room 0 so_far reached refl in
    let z : ◌≡◌ {A = ℕ} 0 1 = cc in omega arith
walk_complete next r before (ChainFrom.goes {n} {l} low rest) room so_far reached few fits within counted fresh none =
    let more : room ≡ suc (room - 1) = omega arith in
    let here : one_if (eqb n n) ≡ 1 = ap one_if (eq-eqb n n refl) in
    let unseen : occurs n (before ++ so_far) ≡ 0 =
    omega (arith, fresh n low within.0, occurs_append n (before ++ so_far) (n ∷ l)) in
    let flag : get_or reached (n - 1) false ≡ false =
    one_if_none (get_or reached (n - 1) false) (sym (counted.1 n low (omega (arith, within.0))) ∙ unseen) in
    let open' : barred r reached n ≡ false = or_from (ltb r n) (get_or reached (n - 1) false) (le-ltb r n within.0) flag in
    let step = ap (λ k. walk next r k n so_far reached) more ∙ walk_suc next r (room - 1) n so_far reached (λ z. omega arith) open' in
    let counted' =
    subst (λ q. Counted q (reach reached n)) (append_assoc before so_far (n ∷ []))
    (counted_more (before ++ so_far) reached n low (omega (arith, within.0)) flag counted) in
    let same : (before ++ (so_far ++ (n ∷ []))) ++ l ≡ (before ++ so_far) ++ (n ∷ l) =
    ap (λ q. q ++ l) (sym (append_assoc before so_far (n ∷ []))) ∙ append_assoc (before ++ so_far) (n ∷ []) l in
    walk_complete next r before rest (room - 1) (so_far ++ (n ∷ [])) (reach reached n) few (omega arith) within.1 counted'
    (λ k a b. subst (λ q. occurs k q ≤ 1) (sym same) (fresh k a b)) (sym step ∙ none)

walk_sound_of :
    (next : ℕ → ℕ) (r : ℕ) (before : List ℕ) (head : ℕ) (reached : List Bool) (o : Option (List ℕ × List Bool)) → r ≤ 256 →
    Counted before reached → walk next r 32 head [] reached ≡ o → WalkFrom next head [] o → WalkCounted before o → WalkNumbered r o → WalkShort 32 o →
    WalkSound next r before head o
walk_sound_of next r before head reached None few counted is from more numbered short =
    λ chain s. walk_complete next r before s.along 32 [] reached few s.short s.within
    (subst (λ q. Counted q reached) (sym (append-nil before)) counted)
    (λ n a b. subst (λ q. occurs n (q ++ chain) ≤ 1) (sym (append-nil before)) (s.fresh n a b)) is
walk_sound_of next r before head reached (Some w) few counted is from more numbered short = (
  record {
    along = subst (ChainFrom next head) (sym from.1) from.2;
    short = short;
    within = All-weaker (λ n. (1 ≤ n) × (n ≤ r)) (λ n. n ≤ r) (λ n h. h.1) w.0 numbered;
    fresh = λ n a b. omega (arith, more.1 n a (omega arith), one_if_le (get_or w.1 (n - 1) false));
  },
  more,
)

walk_sound :
    (next : ℕ → ℕ) (r : ℕ) (before : List ℕ) (head : ℕ) (reached : List Bool) → r ≤ 256 → Counted before reached →
    WalkSound next r before head (walk next r 32 head [] reached)
walk_sound next r before head reached few counted =
    walk_sound_of next r before head reached (walk next r 32 head [] reached) few counted refl
    (walk_from next r 32 head [] reached)
    (walk_counted before next r 32 head [] reached few (subst (λ q. Counted q reached) (sym (append-nil before)) counted))
    (walk_numbered next r 32 head [] reached tt) (walk_short 32 next r 32 head [] reached (omega arith))

all_of_push : (ls : List (List ℕ)) (l : List ℕ) → all_of (ls ++ (l ∷ [])) ≡ all_of ls ++ l
all_of_push [] l = append-nil l
all_of_push (x ∷ ls) l = ap (λ q. x ++ q) (all_of_push ls l) ∙ sym (append_assoc x (all_of ls) l)

-- the same of all processors' chains: they are sound, or the first that is not is told
record Stopped (head next : ℕ → ℕ) (r left p : ℕ) (so_far : List (List ℕ)) (f : BufferFault) : Type 0 where
  more : List (List ℕ)
  is : f ≡ fault BufferRule.Chains (p + length more + 1)
  within : length more < left
  sound : Sounds head next r p (all_of so_far) more
  stuck : (chain : List ℕ) → Sound next r (all_of (so_far ++ more)) (head (p + length more)) chain → ⊥

abbrev WalksLie : (ℕ → ℕ) → (ℕ → ℕ) → ℕ → ℕ → ℕ → List (List ℕ) → Result (List (List ℕ) × List Bool) BufferFault → Type 0
WalksLie head next r left p so_far (Ok w) =
    (ls : List (List ℕ)) × (w.0 ≡ so_far ++ ls) × Sounds head next r p (all_of so_far) ls × Counted (all_of w.0) w.1
WalksLie head next r left p so_far (Err f) = Stopped head next r left p so_far f

walks_longer :
    (head next : ℕ → ℕ) (r left p : ℕ) (so_far : List (List ℕ)) (chain : List ℕ) (w : Result (List (List ℕ) × List Bool) BufferFault) →
    Sound next r (all_of so_far) (head p) chain → WalksLie head next r left (p + 1) (so_far ++ (chain ∷ [])) w →
    WalksLie head next r (suc left) p so_far w
walks_longer head next r left p so_far chain (Err f) here t =
    let sums : p + 1 + length t.more ≡ p + length (chain ∷ t.more) = omega arith in
    record {
      more = chain ∷ t.more;
      is = t.is ∙ ap (λ n. fault BufferRule.Chains (n + 1)) sums;
      within = omega (arith, t.within);
      sound = (here, subst (λ q. Sounds head next r (p + 1) q t.more) (all_of_push so_far chain) t.sound);
      stuck = λ c s. t.stuck c
          (subst (λ q. Sound next r (all_of q) (head (p + 1 + length t.more)) c) (sym (append_assoc so_far (chain ∷ []) t.more))
          (subst (λ n. Sound next r (all_of (so_far ++ (chain ∷ t.more))) (head n) c) (sym sums) s));
    }
walks_longer head next r left p so_far chain (Ok w) here t = (
  chain ∷ t.0,
  t.1 ∙ append_assoc so_far (chain ∷ []) t.0,
  (here, subst (λ q. Sounds head next r (p + 1) q t.0) (all_of_push so_far chain) t.2),
  t.3,
)

sound_or_lie :
    (head next : ℕ → ℕ) (r left p : ℕ) (so_far : List (List ℕ)) (o : Option (List ℕ × List Bool))
    (more : List ℕ × List Bool → Result (List (List ℕ) × List Bool) BufferFault) → WalkSound next r (all_of so_far) (head p) o →
    ((w : List ℕ × List Bool) → Counted (all_of (so_far ++ (w.0 ∷ []))) w.1 → WalksLie head next r left (p + 1) (so_far ++ (w.0 ∷ [])) (more w)) →
    WalksLie head next r (suc left) p so_far (sound_or (p + 1) o more)
sound_or_lie head next r left p so_far None more walked then =
    let same : p + 1 ≡ p + 0 + 1 = omega arith in
    let here : p ≡ p + 0 = omega arith in
    record {
      more = [];
      is = ap (fault BufferRule.Chains) same;
      within = omega arith;
      sound = tt;
      stuck = λ c s. walked c
          (subst (λ q. Sound next r (all_of q) (head p) c) (append-nil so_far)
          (subst (λ n. Sound next r (all_of (so_far ++ [])) (head n) c) (sym here) s));
    }
sound_or_lie head next r left p so_far (Some w) more walked then =
    walks_longer head next r left p so_far w.0 (more w) walked.0
    (then w (subst (λ l. Counted l w.1) (sym (all_of_push so_far w.0)) walked.1))

walks_lie :
    (head next : ℕ → ℕ) (r left p : ℕ) (so_far : List (List ℕ)) (reached : List Bool) → r ≤ 256 → Counted (all_of so_far) reached →
    WalksLie head next r left p so_far (walks head next r left p so_far reached)
unfolding walks
walks_lie head next r zero p so_far reached few c = ([], sym (append-nil so_far), tt, c)
walks_lie head next r (suc left) p so_far reached few c =
    sound_or_lie head next r left p so_far (walk next r 32 (head p) [] reached)
    (λ w. walks head next r left (p + 1) (so_far ++ (w.0 ∷ [])) w.1)
    (walk_sound next r (all_of so_far) (head p) reached few c)
    (λ w counted. walks_lie head next r left (p + 1) (so_far ++ (w.0 ∷ [])) w.1 few counted)

all_true_at : (l : List Bool) → all_true l ≡ true → (k : ℕ) → k < length l → get_or l k false ≡ true
all_true_at [] e k h = absurd (omega arith)
all_true_at (b ∷ l) e zero h = (and_parts b (all_true l) e).0
all_true_at (b ∷ l) e (suc k) h = all_true_at l (and_parts b (all_true l) e).1 k (omega arith)

unset_at : (l : List Bool) → all_true l ≡ false → (k : ℕ) × (k < length l) × (get_or l k false ≡ false)
unset_at [] e = let z : ◌≡◌ {A = ℕ} 0 1 = cc in absurd (omega arith)
unset_at (false ∷ l) e = (0, omega arith, refl)
unset_at (true ∷ l) e = let t = unset_at l e in (suc t.0, omega (arith, t.1), t.2)

abbrev pub ChainsLie : (ℕ → ℕ) → (ℕ → ℕ) → ℕ → ℕ → Result (List (List ℕ)) BufferFault → Type 0
ChainsLie head next m r (Ok l) = Lies head next m r l
ChainsLie head next m r (Err f) =
    ((p : ℕ) × (f ≡ fault BufferRule.Chains p) × Stuck head next m r p)
    ⊎ ((f ≡ fault BufferRule.Chains 0) × LeftOver head next m r)

covered_lie :
    (head next : ℕ → ℕ) (m r : ℕ) (w : Result (List (List ℕ) × List Bool) BufferFault) → r ≤ 256 → WalksSized m w → WalksLie head next r m 0 [] w →
    ChainsLie head next m r (covered r w)
covered_lie head next m r (Err f) few sized t =
    let same : 0 + length t.more + 1 ≡ length t.more + 1 = omega arith in
    let here : 0 + length t.more ≡ length t.more = omega arith in
    inl (
      length t.more + 1,
      t.is ∙ ap (fault BufferRule.Chains) same,
      record {
        chains = t.more;
        is = refl;
        within = omega (arith, t.within);
        sound = t.sound;
        stuck = λ c s. t.stuck c (subst (λ n. Sound next r (all_of t.more) (head n) c) (sym here) s);
      },
    )
covered_lie head next m r (Ok w) few sized t =
    let sound : Sounds head next r 0 [] w.0 = subst (Sounds head next r 0 []) (sym t.1) t.2 in
    let size : length (take r w.1) ≡ r = length-take-le r w.1 (omega (arith, t.3.0)) in
    cond_both (all_true (take r w.1)) (Ok w.0) (Err (fault BufferRule.Chains 0)) (ChainsLie head next m r)
    (λ all.
    record {
      count = sized.0;
      sound = sound;
      once =
          λ n low high.
          let k : n - 1 < r = omega arith in
          let set' : get_or w.1 (n - 1) false ≡ true =
          sym (get_or-take r w.1 (n - 1) false k) ∙ all_true_at (take r w.1) all (n - 1) (omega arith) in
          t.3.1 n low (omega arith) ∙ ap one_if set';
    })
    (λ not-all.
    let u = unset_at (take r w.1) not-all in
    let k : u.0 < r = omega (arith, u.1) in
    let back : u.0 + 1 - 1 ≡ u.0 = omega arith in
    let unset' : get_or w.1 (u.0 + 1 - 1) false ≡ false =
    ap (λ i. get_or w.1 i false) back ∙ (sym (get_or-take r w.1 u.0 false k) ∙ u.2) in
    inr (
      refl,
      record {
        chains = w.0;
        count = sized.0;
        sound = sound;
        over = (u.0 + 1, omega arith, omega arith, t.3.1 (u.0 + 1) (omega arith) (omega arith) ∙ ap one_if unset');
      },
    ))

none_counted : Counted [] (replicate 256 false)
none_counted = (length-replicate 256 false, λ n low high. ap one_if (sym (get_or-replicate 256 (n - 1) false false (omega arith))))

pub chains_lie : (head next : ℕ → ℕ) (m r : ℕ) → r ≤ 256 → ChainsLie head next m r (chains head next m r)
chains_lie head next m r few =
    covered_lie head next m r (walks head next r m 0 [] (replicate 256 false)) few
    (walks_sized m head next r m 0 [] (replicate 256 false) (omega arith, tt) (omega arith))
    (walks_lie head next r m 0 [] (replicate 256 false) few none_counted)
