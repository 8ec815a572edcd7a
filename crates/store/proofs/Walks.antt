-- A chain's walk, one record on and at its end. Assumes nothing.
use Rattle.std.proofs.Common.{◌≡◌, ℕ, zero, suc, ◌+◌, ◌-◌, ◌<◌, ◌≤◌, Bool, true, false, cond, ◌≢◌, List, [], ◌∷◌, ◌++◌, length, take, replicate, Some, None, Ok, Err, Option, Result, sym, refl, ap, ◌∙◌, arith}
use Rattle.std.proofs.lemmas.List.{length_push}
use Rattle.std.proofs.lemmas.Bool.{eq-eqb, ne_eqb}
use Rattle.store.specs.declared.fault.BufferFault.{BufferFault}
use Rattle.store.specs.declared.fault.BufferRule.{BufferRule}
use Rattle.store.specs.Fault.{fault}
use Rattle.store.specs.Chains.{walk, walks, chains, covered, all_true, barred, reach}

pub walk_done :
    (next : ℕ → ℕ) (r room number : ℕ) (so_far : List ℕ) (reached : List Bool) → number ≡ 0 →
    walk next r room number so_far reached ≡ Some (so_far, reached)
unfolding walk
walk_done next r zero number so_far reached z = rw (eq-eqb number 0 z)
walk_done next r (suc room) number so_far reached z = rw (eq-eqb number 0 z)

pub walk_full :
    (next : ℕ → ℕ) (r room number : ℕ) (so_far : List ℕ) (reached : List Bool) → room ≡ 0 → number ≢ 0 →
    walk next r room number so_far reached ≡ None
unfolding walk
walk_full next r room number so_far reached none nz = rw (none, ne_eqb number 0 nz)

pub walk_barred :
    (next : ℕ → ℕ) (r room number : ℕ) (so_far : List ℕ) (reached : List Bool) → number ≢ 0 →
    barred r reached number ≡ true → walk next r room number so_far reached ≡ None
unfolding walk
walk_barred next r zero number so_far reached nz b = rw (ne_eqb number 0 nz)
walk_barred next r (suc room) number so_far reached nz b = rw (ne_eqb number 0 nz, b)

pub walk_suc :
    (next : ℕ → ℕ) (r room number : ℕ) (so_far : List ℕ) (reached : List Bool) → number ≢ 0 →
    barred r reached number ≡ false →
    walk next r (suc room) number so_far reached ≡ walk next r room (next number) (so_far ++ (number ∷ [])) (reach reached number)
unfolding walk
walk_suc next r room number so_far reached nz b = rw (ne_eqb number 0 nz, b)

pub walk_more :
    (next : ℕ → ℕ) (r count number : ℕ) (so_far : List ℕ) (reached : List Bool) → count < 32 → number ≢ 0 →
    barred r reached number ≡ false →
    walk next r (32 - count) number so_far reached
    ≡ walk next r (32 - (count + 1)) (next number) (so_far ++ (number ∷ [])) (reach reached number)
walk_more next r count number so_far reached few nz b =
    let e : 32 - count ≡ suc (32 - (count + 1)) = omega arith in
    rw e (walk_suc next r (32 - (count + 1)) number so_far reached nz b)

-- what a mark that was not refused says, and one that was
pub marked :
    (b : Bool) (f : BufferFault) (x : Unit {0}) (r : Result (Unit {0}) BufferFault) → r ≡ cond b (Err f) (Ok tt) → r ≡ Ok x → b ≡ false
marked true f x r value ok = let z : ◌≡◌ {A = ℕ} 0 1 = cc in absurd (omega arith)
marked false f x r value ok = refl

pub refused :
    (b : Bool) (f e : BufferFault) (r : Result (Unit {0}) BufferFault) → r ≡ cond b (Err f) (Ok tt) → r ≡ Err e →
    (b ≡ true) × (e ≡ f)
refused true f e r value err = (refl, cc)
refused false f e r value err = let z : ◌≡◌ {A = ℕ} 0 1 = cc in absurd (omega arith)

-- a turn of the loop that follows a chain
pub walk_again :
    (next : ℕ → ℕ) (r number number' : ℕ) (so_far so-far' : List ℕ) (reached reached' : List Bool)
    (goal : Option (List ℕ × List Bool)) (f : BufferFault) (x : Unit {0}) (res : Result (Unit {0}) BufferFault) →
    length so_far < 32 → number ≢ 0 → res ≡ cond (barred r reached number) (Err f) (Ok tt) → res ≡ Ok x →
    reached' ≡ cond (barred r reached number) reached (reach reached number) →
    so-far' ≡ so_far ++ (number ∷ []) → number' ≡ next number →
    walk next r (32 - length so_far) number so_far reached ≡ goal →
    walk next r (32 - length so-far') number' so-far' reached' ≡ goal
walk_again next r number number' so_far so-far' reached reached' goal f x res few nz value ok after is-so-far is_number inv =
    let open' = marked (barred r reached number) f x res value ok in
    rw (is-so-far, length_push so_far number, is_number, after, open')
    (sym (walk_more next r (length so_far) number so_far reached few nz open') ∙ inv)

-- the processors' chains, one processor on and at the end
pub walks_suc :
    (head next : ℕ → ℕ) (r left p : ℕ) (so_far : List (List ℕ)) (reached : List Bool) (numbers : List ℕ) (after : List Bool) →
    walk next r 32 (head p) [] reached ≡ Some (numbers, after) →
    walks head next r (suc left) p so_far reached ≡ walks head next r left (p + 1) (so_far ++ (numbers ∷ [])) after
unfolding walks
walks_suc head next r left p so_far reached numbers after e = rw e

walks_stop :
    (head next : ℕ → ℕ) (r left p : ℕ) (so_far : List (List ℕ)) (reached : List Bool) →
    walk next r 32 (head p) [] reached ≡ None → walks head next r (suc left) p so_far reached ≡ Err (fault BufferRule.Chains (p + 1))
unfolding walks
walks_stop head next r left p so_far reached e = rw e

pub walks_more :
    (head next : ℕ → ℕ) (r m p : ℕ) (so_far : List (List ℕ)) (reached : List Bool) (numbers : List ℕ) (after : List Bool) → p < m →
    walk next r 32 (head p) [] reached ≡ Some (numbers, after) →
    walks head next r (m - p) p so_far reached ≡ walks head next r (m - (p + 1)) (p + 1) (so_far ++ (numbers ∷ [])) after
walks_more head next r m p so_far reached numbers after h e =
    let left : m - p ≡ suc (m - (p + 1)) = omega arith in
    rw left (walks_suc head next r (m - (p + 1)) p so_far reached numbers after e)

pub walks_refused :
    (head next : ℕ → ℕ) (r m p : ℕ) (so_far : List (List ℕ)) (reached : List Bool) → p < m →
    walk next r 32 (head p) [] reached ≡ None → walks head next r (m - p) p so_far reached ≡ Err (fault BufferRule.Chains (p + 1))
walks_refused head next r m p so_far reached h e =
    let left : m - p ≡ suc (m - (p + 1)) = omega arith in
    rw left (walks_stop head next r (m - (p + 1)) p so_far reached e)

pub walks_all :
    (head next : ℕ → ℕ) (r left p : ℕ) (so_far : List (List ℕ)) (reached : List Bool) → left ≡ 0 →
    walks head next r left p so_far reached ≡ Ok (so_far, reached)
unfolding walks
walks_all head next r left p so_far reached e = rw e

-- a turn of the loop over the processors
pub walks_again :
    (head next : ℕ → ℕ) (r m p : ℕ) (so_far more : List (List ℕ)) (reached after : List Bool) (chain : List ℕ)
    (goal : Result (List (List ℕ) × List Bool) BufferFault) → p < m →
    walk next r 32 (head p) [] reached ≡ Some (chain, after) → more ≡ so_far ++ (chain ∷ []) →
    walks head next r (m - p) p so_far reached ≡ goal → walks head next r (m - (p + 1)) (p + 1) more after ≡ goal
walks_again head next r m p so_far more reached after chain goal h e pushed inv =
    rw pushed (sym (walks_more head next r m p so_far reached chain after h e) ∙ inv)

-- its end, with the test of what was reached
pub chains_end :
    (head next : ℕ → ℕ) (r m p : ℕ) (all : List (List ℕ)) (reached : List Bool) (b : Bool) → m ≤ p → p ≤ m →
    walks head next r (m - p) p all reached ≡ walks head next r m 0 [] (replicate 256 false) →
    b ≡ all_true (take r reached) →
    chains head next m r ≡ cond b (Ok all) (Err (fault BufferRule.Chains 0))
chains_end head next r m p all reached b low high inv is =
    let done = walks_all head next r (m - p) p all reached (omega arith) in
    ap (covered r) (sym inv ∙ done) ∙ rw is
