-- The rows that an image says are its records, each once. Assumes nothing.
use Rattle.std.proofs.Common.{◌≡◌, ℕ, zero, suc, ◌+◌, ◌-◌, ◌<◌, ◌≤◌, Bool, true, false, cond, not, ◌&&◌, eqb, ltb, ◌⊎◌, List, [], ◌∷◌, ◌++◌, map, length, get_or, take, set, replicate, Some, None, Ok, Err, Option, Result, sym, refl, ap, ◌∙◌, subst, inl, inr, arith, length-append, length-set}
use lib.ListN.{length-replicate, length-map}
use Rattle.std.proofs.lemmas.Bool.{cond_both, eq-eqb, eqb-true, eqb-false, ltb-false, or_parts, and_parts, not-false}
use native.Mathlib.Decide.{dec_lt}
use Rattle.std.specs.List.{ContainsAt as Has, AllByRecursion}
use Rattle.model.specs.declared.row.Row.{Row}
use Rattle.store.specs.declared.entry.Entry.{Entry}
use Rattle.store.specs.declared.fault.BufferFault.{BufferFault}
use Rattle.store.specs.declared.fault.BufferRule.{BufferRule}
use Rattle.store.specs.Fault.{fault}
use Rattle.store.specs.Numbers.{byte_at}
use Rattle.store.specs.Header.{header_fault, record_count}
use Rattle.store.specs.Record.{entry, entry_at, next_at, bad_entry}
use Rattle.store.specs.Records.{record_fault}
use Rattle.store.specs.Chains.{walk, walks, sound_or, barred, reach, all_true, covered, chains, head_at}
use Rattle.store.specs.Entries.{unless, along, entries}
use Rattle.promise.specs.Plan.{Plan}
use Rattle.promise.specs.Stored.{says_from, records}
use Rattle.promise.proofs.Lists.{has_none, has_here, has_there, has_cases}

-- sums over a list, and over lists
abbrev pub sum_by : {X : Type 0} → (X → ℕ) → List X → ℕ
sum_by f [] = 0
sum_by f (x ∷ l) = f x + sum_by f l

abbrev pub sum_all : {X : Type 0} → (X → ℕ) → List (List X) → ℕ
sum_all f [] = 0
sum_all f (l ∷ ls) = sum_by f l + sum_all f ls

module _ {X : Type 0} (f : X → ℕ) where
  sum_push : (l : List X) (x : X) → sum_by f (l ++ (x ∷ [])) ≡ sum_by f l + f x
  sum_push [] x = omega arith
  sum_push (y ∷ l) x = omega (arith, sum_push l x)

  sum_all_push : (ls : List (List X)) (l : List X) → sum_all f (ls ++ (l ∷ [])) ≡ sum_all f ls + sum_by f l
  sum_all_push [] l = omega arith
  sum_all_push (k ∷ ls) l = omega (arith, sum_all_push ls l)

module _ {X Y : Type 0} (f : Y → ℕ) (g : X → Y) where
  sum_map : (l : List X) → sum_by f (map g l) ≡ sum_by (λ x. f (g x)) l
  sum_map [] = refl
  sum_map (x ∷ l) = ap (λ n. f (g x) + n) (sum_map l)

  sum_all_map : (ls : List (List X)) → sum_all f (map (map g) ls) ≡ sum_all (λ x. f (g x)) ls
  sum_all_map [] = refl
  sum_all_map (l ∷ ls) = omega (arith, sum_map l, sum_all_map ls)

module _ (f : ℕ → ℕ) where
  -- the sum over those of r records, from number n on, that were reached
  abbrev weigh : ℕ → ℕ → List Bool → ℕ
  weigh zero n flags = 0
  weigh (suc r) n [] = 0
  weigh (suc r) n (b ∷ flags) = cond b (f n) 0 + weigh r (n + 1) flags

  -- a record that is reached for the first time
  weigh_reach : (r n i q : ℕ) (flags : List Bool) → i < r → i < length flags → get_or flags i false ≡ false → q ≡ n + i
      → weigh r n (set flags i true) ≡ weigh r n flags + f q
  weigh_reach zero n i q flags lt in' fresh is = absurd (omega arith)
  weigh_reach (suc r) n i q [] lt in' fresh is = absurd (omega arith)
  weigh_reach (suc r) n zero q (b ∷ flags) lt in' fresh is =
      let same : q ≡ n = omega arith in
      omega (arith, ap (λ c. cond c (f n) 0) fresh, ap f same)
  weigh_reach (suc r) n (suc i) q (b ∷ flags) lt in' fresh is =
      omega (arith, weigh_reach r (n + 1) i q flags (omega arith) (omega arith) fresh (omega arith))

  weigh_none : (r n k : ℕ) → weigh r n (replicate k false) ≡ 0
  weigh_none zero n k = refl
  weigh_none (suc r) n zero = refl
  weigh_none (suc r) n (suc k) = omega (arith, weigh_none r (n + 1) k)

  module _ (r : ℕ) (few : r ≤ 256) where
    abbrev WalkWeighs : ℕ → Option (List ℕ × List Bool) → Type 0
    WalkWeighs c (Some w) = (sum_by f w.0 + c ≡ weigh r 1 w.1) × (length w.1 ≡ 256)
    WalkWeighs c None = Unit {0}

    walk_weighs : (next : ℕ → ℕ) (room number : ℕ) (so_far : List ℕ) (reached : List Bool) (c : ℕ)
        → sum_by f so_far + c ≡ weigh r 1 reached → length reached ≡ 256 → WalkWeighs c (walk next r room number so_far reached)
    unfolding walk
    walk_weighs next zero number so_far reached c e n =
        cond_both (eqb number 0) (Some (so_far, reached)) None (WalkWeighs c) (λ _. (e, n)) (λ _. tt)
    walk_weighs next (suc room) number so_far reached c e n =
        cond_both (eqb number 0) (Some (so_far, reached))
        (cond (barred r reached number) None (walk next r room (next number) (so_far ++ (number ∷ [])) (reach reached number)))
        (WalkWeighs c) (λ _. (e, n))
        (λ nz. cond_both (barred r reached number) None (walk next r room (next number) (so_far ++ (number ∷ [])) (reach reached number))
        (WalkWeighs c) (λ _. tt)
        (λ open'. let apart = or_parts (ltb r number) (get_or reached (number - 1) false) open' in
        let some : number ≡ 0 → ⊥ = eqb-false number 0 nz in
        let low : number ≤ r = ltb-false r number apart.0 in
        walk_weighs next room (next number) (so_far ++ (number ∷ [])) (reach reached number) c
        (omega (arith, sum_push f so_far number, weigh_reach r 1 (number - 1) number reached (omega arith) (omega arith) apart.1 (omega arith)))
        (length-set reached (number - 1) true ∙ n)))

    abbrev WalksWeigh : ℕ → Result (List (List ℕ) × List Bool) BufferFault → Type 0
    WalksWeigh m (Ok w) = (sum_all f w.0 ≡ weigh r 1 w.1) × (length w.1 ≡ 256) × (length w.0 ≡ m)
    WalksWeigh m (Err g) = Unit {0}

    sound_or_weighs : (m c place : ℕ) (o : Option (List ℕ × List Bool)) (more : List ℕ × List Bool → Result (List (List ℕ) × List Bool) BufferFault)
        → WalkWeighs c o → ((w : List ℕ × List Bool) → WalkWeighs c (Some w) → WalksWeigh m (more w)) → WalksWeigh m (sound_or place o more)
    sound_or_weighs m c place None more h then = tt
    sound_or_weighs m c place (Some w) more h then = then w h

    walks_weigh : (head next : ℕ → ℕ) (m left p : ℕ) (so_far : List (List ℕ)) (reached : List Bool)
        → sum_all f so_far ≡ weigh r 1 reached → length reached ≡ 256 → length so_far + left ≡ m → WalksWeigh m (walks head next r left p so_far reached)
    unfolding walks
    walks_weigh head next m zero p so_far reached e n h = (e, n, omega arith)
    walks_weigh head next m (suc left) p so_far reached e n h =
        sound_or_weighs m (weigh r 1 reached) (p + 1) (walk next r 32 (head p) [] reached)
        (λ w. walks head next r left (p + 1) (so_far ++ (w.0 ∷ [])) w.1)
        (walk_weighs next 32 (head p) [] reached (weigh r 1 reached) (omega arith) n)
        (λ w here. walks_weigh head next m left (p + 1) (so_far ++ (w.0 ∷ [])) w.1
        (omega (arith, sum_all_push f so_far w.0, here.0)) here.1 (omega (arith, length-append so_far (w.0 ∷ []))))

module _ (says : ℕ → Entry) (f : Entry → ℕ) where
  -- all were reached
  weigh_all : (r n : ℕ) (flags : List Bool) → r ≤ length flags → all_true (take r flags) ≡ true → weigh (λ i. f (says i)) r n flags ≡ sum_by f (says_from says r n)
  weigh_all zero n flags le all = refl
  weigh_all (suc r) n [] le all = absurd (omega arith)
  weigh_all (suc r) n (b ∷ flags) le all =
      let both = and_parts b (all_true (take r flags)) all in
      omega (arith, ap (λ c. cond c (f (says n)) 0) both.0, weigh_all r (n + 1) flags (omega arith) both.1)

  abbrev ChainsWeigh : ℕ → ℕ → Result (List (List ℕ)) BufferFault → Type 0
  ChainsWeigh r m (Ok l) = (sum_all (λ i. f (says i)) l ≡ sum_by f (says_from says r 1)) × (length l ≡ m)
  ChainsWeigh r m (Err g) = Unit {0}

  covered_weighs : (r m : ℕ) (few : r ≤ 256) (w : Result (List (List ℕ) × List Bool) BufferFault) → WalksWeigh (λ i. f (says i)) r few m w → ChainsWeigh r m (covered r w)
  covered_weighs r m few (Ok w) h =
      cond_both (all_true (take r w.1)) (Ok w.0) (Err (fault BufferRule.Chains 0)) (ChainsWeigh r m)
      (λ all. (h.0 ∙ weigh_all r 1 w.1 (omega (arith, h.1)) all, h.2)) (λ _. tt)
  covered_weighs r m few (Err g) h = tt

  -- a sum along the chains is the sum over the records
  chains_weigh : (head next : ℕ → ℕ) (m r : ℕ) (l : List (List ℕ)) → r ≤ 256 → chains head next m r ≡ Ok l
      → (sum_all (λ i. f (says i)) l ≡ sum_by f (says_from says r 1)) × (length l ≡ m)
  chains_weigh head next m r l few e =
      subst (ChainsWeigh r m) e
      (covered_weighs r m few (walks head next r m 0 [] (replicate 256 false))
      (walks_weigh (λ i. f (says i)) r few head next m m 0 [] (replicate 256 false) (sym (weigh_none (λ i. f (says i)) r 1 256)) (length-replicate 256 false) (omega arith)))

-- what is not refused
unless_ok : {X : Type 0} (o : Option BufferFault) (r : Result X BufferFault) (x : X) → unless o r ≡ Ok x → (o ≡ None) × (r ≡ Ok x)
unless_ok (Some g) r x e = let z : ◌≡◌ {A = ℕ} 0 1 = cc in absurd (omega arith)
unless_ok None r x e = (refl, e)

along_ok : (says : ℕ → Entry) (r : ℕ) (w : Result (List (List ℕ)) BufferFault) (l : List (List Entry)) → along says r w ≡ Ok l
    → (numbers : List (List ℕ)) × (w ≡ Ok numbers) × (record_fault says r 1 ≡ None) × (map (map says) numbers ≡ l)
along_ok says r (Err g) l e = let z : ◌≡◌ {A = ℕ} 0 1 = cc in absurd (omega arith)
along_ok says r (Ok numbers) l e =
    let h = unless_ok (record_fault says r 1) (Ok (map (map says) numbers)) l e in
    let ok : Ok (map (map says) numbers) ≡ Ok l = h.1 in
    (numbers, refl, h.0, cc)

pub cond_none : (b : Bool) (g : BufferFault) (o : Option BufferFault) → cond b (Some g) o ≡ None → (b ≡ false) × (o ≡ None)
cond_none true g o e = let z : ◌≡◌ {A = ℕ} 0 1 = cc in absurd (omega arith)
cond_none false g o e = (refl, e)

header_ok : (m : ℕ) (bytes : List ℕ) → header_fault m bytes ≡ None → (byte_at bytes 1 ≡ m) × (record_count bytes ≤ 256)
header_ok m bytes e =
    let a = cond_none (ltb (length bytes) 4) (fault BufferRule.Header 0) _ e in
    let b = cond_none (not (eqb (byte_at bytes 0) 1)) (fault BufferRule.Form 0) _ a.1 in
    let c = cond_none (not (eqb (byte_at bytes 1) m)) (fault BufferRule.Processors 0) _ b.1 in
    let d = cond_none (ltb 256 (record_count bytes)) (fault BufferRule.Length 0) _ c.1 in
    (eqb-true (byte_at bytes 1) m (not-false (eqb (byte_at bytes 1) m) c.0), ltb-false 256 (record_count bytes) d.0)

records_ok : (says : ℕ → Entry) (r n : ℕ) → record_fault says r n ≡ None → AllByRecursion (λ e. bad_entry e ≡ false) (says_from says r n)
unfolding record_fault
records_ok says zero n e = tt
records_ok says (suc r) n e =
    let h = cond_none (bad_entry (says n)) (fault BufferRule.Record n) (record_fault says r (n + 1)) e in
    (h.0, records_ok says r (n + 1) h.1)

-- a plan of just the rows that records say, none of which is bad
pub record Recorded (all : List Entry) (plan : Plan) : Type 0 where
  pub sums : (f : Entry → ℕ) → sum_all (λ row. f (entry row)) plan ≡ sum_by f all
  pub sound : AllByRecursion (λ e. bad_entry e ≡ false) all

pub entries_recorded : (m : ℕ) (bytes : List ℕ) (plan : Plan) → entries m bytes ≡ Ok (map (map entry) plan) → Recorded (records bytes) plan × (length plan ≡ m)
entries_recorded m bytes plan e =
    let says = entry_at m bytes in
    let r = record_count bytes in
    let outer = unless_ok (header_fault m bytes) (along says r (chains (head_at bytes) (next_at m bytes) m r)) (map (map entry) plan) e in
    let header = header_ok m bytes outer.0 in
    let inner = along_ok says r (chains (head_at bytes) (next_at m bytes) m r) (map (map entry) plan) outer.1 in
    let numbers = inner.0 in
    let weighs : (f : Entry → ℕ) → (sum_all (λ i. f (says i)) numbers ≡ sum_by f (says_from says r 1)) × (length numbers ≡ m) =
    λ f. chains_weigh says f (head_at bytes) (next_at m bytes) m r numbers header.1 inner.1 in
    let here : Recorded (says_from says r 1) plan = record {
      sums = λ f. sym (sum_all_map f entry plan) ∙ ap (sum_all f) (sym inner.3) ∙ sum_all_map f says numbers ∙ (weighs f).0;
      sound = records_ok says r 1 inner.2;
    } in (
      subst (λ k. Recorded (says_from (entry_at k bytes) r 1) plan) (sym header.0) here,
      sym (length-map plan (map entry)) ∙ ap length (sym inner.3) ∙ length-map numbers (map says) ∙ (weighs (λ z. 0)).1,
    )

-- a sum has an element that counts, and counts where an element does
module _ {X : Type 0} (f : X → ℕ) where
  pub sum_some : (l : List X) (x : X) → Has l x → 0 < f x → 0 < sum_by f l
  sum_some [] x has some = absurd (has_none x has)
  sum_some (y ∷ l) x has some = go (has_cases y l x has) (λ h. sum_some l x h some)
    where
      go : (y ≡ x) ⊎ Has l x → (Has l x → 0 < sum_by f l) → 0 < f y + sum_by f l
      go (inl e) rest = omega (arith, ap f e, some)
      go (inr h) rest = omega (arith, rest h)

  sum_has : (l : List X) → 0 < sum_by f l → (x : X) × Has l x × (0 < f x)
  sum_has [] some = absurd (omega arith)
  sum_has (y ∷ l) some = elim (dec_lt 0 (f y)) [ yes lt ↦ (y, has_here y l, lt) | no ge ↦ (let r = sum_has l (omega arith) in (r.0, has_there y l r.0 r.1, r.2)) ]

  sum_all_some : (ls : List (List X)) (i : ℕ) (x : X) → i < length ls → Has (get_or ls i []) x → 0 < f x → 0 < sum_all f ls
  sum_all_some [] i x lt has some = absurd (omega arith)
  sum_all_some (l ∷ ls) zero x lt has some = omega (arith, sum_some l x has some)
  sum_all_some (l ∷ ls) (suc i) x lt has some = omega (arith, sum_all_some ls i x (omega arith) has some)

  sum_all_has : (ls : List (List X)) → 0 < sum_all f ls → (i : ℕ) × (i < length ls) × ((x : X) × Has (get_or ls i []) x × (0 < f x))
  sum_all_has [] some = absurd (omega arith)
  sum_all_has (l ∷ ls) some = elim (dec_lt 0 (sum_by f l)) [ yes lt ↦ (0, omega arith, sum_has l lt) | no ge ↦ (let r = sum_all_has ls (omega arith) in (suc r.0, omega (arith, r.1), r.2)) ]

-- entries are equal where their numbers are
abbrev same : Entry → Entry → Bool
same a b = eqb a.key b.key && (eqb a.kind b.kind && (eqb a.part b.part && (eqb a.budget b.budget && (eqb a.deadline b.deadline && eqb a.period b.period))))

same_itself : (a : Entry) → same a a ≡ true
same_itself a = rw (eq-eqb a.key a.key refl, eq-eqb a.kind a.kind refl, eq-eqb a.part a.part refl, eq-eqb a.budget a.budget refl, eq-eqb a.deadline a.deadline refl, eq-eqb a.period a.period refl)

same_equal : (a b : Entry) → same a b ≡ true → a ≡ b
same_equal a b e =
    let h₁ = and_parts (eqb a.key b.key) _ e in
    let h₂ = and_parts (eqb a.kind b.kind) _ h₁.1 in
    let h₃ = and_parts (eqb a.part b.part) _ h₂.1 in
    let h₄ = and_parts (eqb a.budget b.budget) _ h₃.1 in
    let h₅ = and_parts (eqb a.deadline b.deadline) (eqb a.period b.period) h₄.1 in
    let key = eqb-true a.key b.key h₁.0 in
    let kind = eqb-true a.kind b.kind h₂.0 in
    let part = eqb-true a.part b.part h₃.0 in
    let budget = eqb-true a.budget b.budget h₄.0 in
    let deadline = eqb-true a.deadline b.deadline h₅.0 in
    let period = eqb-true a.period b.period h₅.1 in
    λ i. record { key = key i; kind = kind i; part = part i; budget = budget i; deadline = deadline i; period = period i }

counts : (b : Bool) → 0 < cond b 1 0 → b ≡ true
counts true some = refl
counts false some = absurd (omega arith)

counted : (a : Entry) → 0 < cond (same a a) 1 0
counted a = rw (same_itself a) (omega arith)

-- each row is a record's, and each record is a row's
module _ (all : List Entry) (plan : Plan) (recorded : Recorded all plan) where
  pub row_recorded : (i : ℕ) (row : Row) → i < length plan → Has (get_or plan i []) row → Has all (entry row)
  row_recorded i row lt has =
      let f : Entry → ℕ = λ z. cond (same z (entry row)) 1 0 in
      let some : 0 < sum_all (λ r. f (entry r)) plan = sum_all_some (λ r. f (entry r)) plan i row lt has (counted (entry row)) in
      let found = sum_has f all (omega (arith, recorded.sums f, some)) in
      subst (Has all) (same_equal found.0 (entry row) (counts (same found.0 (entry row)) found.2)) found.1

  pub record_stands : (e : Entry) → Has all e → (i : ℕ) × (i < length plan) × ((row : Row) × Has (get_or plan i []) row × (entry row ≡ e))
  record_stands e has =
      let f : Entry → ℕ = λ z. cond (same z e) 1 0 in
      let some : 0 < sum_by f all = sum_some f all e has (counted e) in
      let found = sum_all_has (λ r. f (entry r)) plan (omega (arith, recorded.sums f, some)) in
      let row = found.2.0 in
      (found.0, found.1, (row, found.2.1, same_equal (entry row) e (counts (same (entry row) e) found.2.2)))
