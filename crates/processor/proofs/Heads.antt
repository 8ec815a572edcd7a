-- The candidate is what the rules say, and nothing else is. Assumes nothing.
use Rattle.std.proofs.Common.{◌≡◌, ℕ, Bool, true, false, cond, ◌&&◌, ◌||◌, eqb, ltb, List, [], ◌∷◌, ◌++◌, Some, None, Option, fold, sym, refl, ap, ◌∙◌, subst, append_assoc, append-nil, arith}
use Rattle.model.specs.Row.{is_head, is_tail}
use borrow.Author.Tests.{clash}
use Rattle.std.specs.List.{AllByRecursion, reduce}
use Rattle.std.proofs.ByRecursion.{All-append, All-push, All-weaker}
use Rattle.std.proofs.lemmas.Bool.Decides.{nat_tests}
use Rattle.model.specs.Scale.{scale}
use Rattle.model.specs.Share.{share}
use Rattle.model.specs.declared.row.Row.{Row}
use Rattle.placement.proofs.Foremost.{all_middle, no_middle}
use Rattle.processor.specs.Gathering.{tail_among, heavier, over, heaviest, or_else, candidate}
use Rattle.processor.specs.Candidate.{tails, heads, Heaviest, Candidate, by_tail, by_head}

-- the order by which heads are compared: the larger first, then the lower key
abbrev above : ℕ → ℕ → ℕ → ℕ → Bool
above s k t l = ltb t s || (eqb t s && ltb k l)

above_chain : (s k t l u m : ℕ) → above s k t l ≡ true → above t l u m ≡ true → above s k u m ≡ true
above_chain s k t l u m p q = grind (arith, nat_tests)

above_past : (s k t l u m : ℕ) → above s k t l ≡ true → above u m t l ≡ false → above s k u m ≡ true
above_past s k t l u m p q = grind (arith, nat_tests)

above_apart : (s k : ℕ) → above s k s k ≡ false
above_apart s k = grind (arith, nat_tests)

chain : (a b c : Row) → heavier a b ≡ true → heavier b c ≡ true → heavier a c ≡ true
chain a b c = above_chain (share scale a.timing) a.key (share scale b.timing) b.key (share scale c.timing) c.key

past : (a b c : Row) → heavier a b ≡ true → heavier c b ≡ false → heavier a c ≡ true
past a b c = above_past (share scale a.timing) a.key (share scale b.timing) b.key (share scale c.timing) c.key

apart : (a : Row) → heavier a a ≡ false
apart a = above_apart (share scale a.timing) a.key

-- one more head at the end
step : (l : List Row) (a b : Row) (v : Bool) → heavier b a ≡ v → Heaviest l a → Heaviest (l ++ (b ∷ [])) (cond v b a)
step l a b true e f =
    record {
      before = l;
      after = [];
      stands = refl;
      weakly = tt;
      strictly = rw f.stands (All-append (λ y. heavier b y ≡ true) f.before (a ∷ f.after)
          (All-weaker (λ y. heavier a y ≡ true) (λ y. heavier b y ≡ true) (λ y h. chain b a y e h) f.before f.strictly)
          (e, All-weaker (λ y. heavier y a ≡ false) (λ y. heavier b y ≡ true) (λ y h. past b a y e h) f.after f.weakly));
    }
step l a b false e f =
    record {
      before = f.before;
      after = f.after ++ (b ∷ []);
      stands = ap (λ x. x ++ (b ∷ [])) f.stands ∙ append_assoc f.before (a ∷ f.after) (b ∷ []);
      strictly = f.strictly;
      weakly = All-push (λ y. heavier y a ≡ false) f.after b f.weakly e;
    }

-- the heaviest so far is one of a list, or there was none
abbrev Held : List Row → Option Row → Type 0
Held l None = l ≡ []
Held l (Some a) = Heaviest l a

over_is : (a b : Row) → over (Some a) b ≡ Some (cond (heavier b a) b a)
over_is a b = go (heavier b a)
  where
    go : (v : Bool) → cond v (Some b) (Some a) ≡ Some (cond v b a)
    go true = refl
    go false = refl

held_more : (pre : List Row) (h : Option Row) (b : Row) → Held pre h → Held (pre ++ (b ∷ [])) (over h b)
held_more pre None b e = record { before = []; after = []; stands = ap (λ l. l ++ (b ∷ [])) e; strictly = tt; weakly = tt }
held_more pre (Some a) b f = rw (over_is a b) (step pre a b _ refl f)

-- passing over rows that are no heads
held_all : (pre rows : List Row) (h : Option Row) → Held pre h → Held (pre ++ heads rows) (heaviest h rows)
held_all pre [] h k = rw append-nil k
held_all pre (r ∷ rows) h k =
    elim (is_head r.kind) as (λ v. Held (pre ++ cond v (r ∷ heads rows) (heads rows)) (heaviest (cond v (over h r) h) rows)) [
      | true ↦ rw append_assoc at (held_all (pre ++ (r ∷ [])) rows (over h r) (held_more pre h r k))
      | false ↦ held_all pre rows h k
    ]

-- the heaviest head is the library's `reduce`, of the heads
abbrev pub heavier_of : Row → Row → Row
heavier_of held row = cond (heavier row held) row held

heaviest_fold : (a : Row) (rows : List Row) → heaviest (Some a) rows ≡ Some (fold heavier_of a (heads rows))
heaviest_fold a [] = refl
heaviest_fold a (r ∷ rows) =
    elim (is_head r.kind) as (λ v. heaviest (cond v (over (Some a) r) (Some a)) rows ≡ Some (fold heavier_of a (cond v (r ∷ heads rows) (heads rows)))) [
      | true ↦ ap (λ h. heaviest h rows) (over_is a r) ∙ heaviest_fold (heavier_of a r) rows
      | false ↦ heaviest_fold a rows
    ]

pub heaviest_reduce : (rows : List Row) → heaviest None rows ≡ reduce heavier_of (heads rows)
heaviest_reduce [] = refl
heaviest_reduce (r ∷ rows) =
    elim (is_head r.kind) as (λ v. heaviest (cond v (over None r) None) rows ≡ reduce heavier_of (cond v (r ∷ heads rows) (heads rows)))
    [ true ↦ heaviest_fold r rows | false ↦ heaviest_reduce rows ]

-- of two heaviest of one list neither stands earlier
beaten : (c d y : Row) (after mid end : List Row) → c ∷ after ≡ y ∷ (mid ++ (d ∷ end)) → AllByRecursion (λ x. heavier x c ≡ false) after → heavier d y ≡ true → ⊥
beaten c d y after mid end e w h =
    let Lighter : Row → Type 0 = λ x. heavier x c ≡ false in
    let same : y ≡ c = cc in let rest : after ≡ mid ++ (d ∷ end) = cc in
    clash (sym (all_middle Lighter mid d end (subst (AllByRecursion Lighter) rest w)) ∙ subst (λ x. heavier d x ≡ true) same h)

agree : (c d : Row) (b a b' a' : List Row) → b ++ (c ∷ a) ≡ b' ++ (d ∷ a') →
    AllByRecursion (λ x. heavier c x ≡ true) b → AllByRecursion (λ x. heavier x c ≡ false) a → AllByRecursion (λ x. heavier d x ≡ true) b' → AllByRecursion (λ x. heavier x d ≡ false) a' → c ≡ d
agree c d [] a [] a' e s w t v = cc
agree c d [] a (y ∷ b') a' e s w t v = absurd (beaten c d y a b' a' e w t.0)
agree c d (y ∷ b) a [] a' e s w t v = absurd (beaten d c y a' b a (sym e) v s.0)
agree c d (y ∷ b) a (z ∷ b') a' e s w t v =
    let tail : b ++ (c ∷ a) ≡ b' ++ (d ∷ a') = cc in agree c d b a b' a' tail s.1 w t.1 v

same_held : (l : List Row) (h : Option Row) (d : Row) → Held l h → Heaviest l d → h ≡ Some d
same_held l None d e k = absurd (no_middle k.before d k.after (sym e ∙ k.stands))
same_held l (Some c) d f k =
    ap Some (agree c d f.before f.after k.before k.after (sym f.stands ∙ k.stands) f.strictly f.weakly k.strictly k.weakly)

heaviest_held : (rows : List Row) → Held (heads rows) (heaviest None rows)
heaviest_held rows = held_all [] rows None refl

-- the first tail
abbrev first_of : List Row → Option Row
first_of [] = None
first_of (x ∷ l) = Some x

tail_first : (rows : List Row) → tail_among rows ≡ first_of (tails rows)
tail_first [] = refl
tail_first (r ∷ rows) =
    elim (is_tail r.kind) as (λ v. cond v (Some r) (tail_among rows) ≡ first_of (cond v (r ∷ tails rows) (tails rows)))
    [ true ↦ refl | false ↦ tail_first rows ]

-- what the rules allow is what is computed
pub candidate_only : (rows : List Row) (row : Row) → Candidate rows row → candidate rows ≡ Some row
candidate_only rows row (by_tail rest e) = ap (λ o. or_else o (heaviest None rows)) (tail_first rows ∙ ap first_of e)
candidate_only rows row (by_head e f) =
    ap (λ o. or_else o (heaviest None rows)) (tail_first rows ∙ ap first_of e) ∙ same_held (heads rows) (heaviest None rows) row (heaviest_held rows) f

-- and what is computed is allowed
by_first : (rows : List Row) (row : Row) (l : List Row) → tails rows ≡ l → (h : Option Row) → Held (heads rows) h → or_else (first_of l) h ≡ Some row → Candidate rows row
by_first rows row [] e None k o = let z : ◌≡◌ {A = ℕ} 0 1 = cc in absurd (omega arith)
by_first rows row [] e (Some a) k o = let same : a ≡ row = cc in by_head e (subst (Heaviest (heads rows)) same k)
by_first rows row (x ∷ l) e h k o = let same : x ≡ row = cc in by_tail l (e ∙ ap (λ y. y ∷ l) same)

pub candidate_gives : (rows : List Row) (row : Row) → candidate rows ≡ Some row → Candidate rows row
candidate_gives rows row o =
    by_first rows row (tails rows) refl (heaviest None rows) (heaviest_held rows) (ap (λ t. or_else t (heaviest None rows)) (sym (tail_first rows)) ∙ o)
