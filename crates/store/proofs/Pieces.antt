-- The tests of a key's rows, one row on. Assumes nothing.
use Rattle.std.proofs.Common.{◌≡◌, ℕ, zero, suc, ◌+◌, ◌-◌, ◌*◌, ◌<◌, ◌≤◌, Bool, true, false, cond, not, ◌&&◌, eqb, leb, List, [], ◌∷◌, ◌++◌, length, map, get_or, drop, sym, refl, ap, ◌∙◌, zero-add, append_assoc, subst, ⊎_elim, arith}
use Rattle.std.specs.Bool.{MatchBool}
use Rattle.std.proofs.lemmas.List.Recursion.{is_sum_by}
use Rattle.std.specs.List.{sum_by, flat_map, range_with_len, AllWithin, HoldsAt}
use Rattle.std.proofs.lemmas.List.FromFn.{length-range_with_len, get_or-range_with_len}
use Rattle.std.proofs.lemmas.Bool.{eq-eqb, ne_eqb, cond_both, cases_lt}
use Rattle.model.specs.declared.row.Kind.{Kind}
use Rattle.model.specs.declared.row.Row.{Row}
use Rattle.model.specs.Row.{kind_number, part, is_tail, due}
use Rattle.processor.specs.declared.few.Few.{Few}
use Rattle.processor.specs.Few.{held}
use Rattle.store.specs.Keys.{of_key, apart, pieces, piece, alike, times, once_each, stretch_of, firsts, keys}
use Rattle.store.specs.Loading.{all_of}
use Rattle.store.proofs.ByNumber.{length_held}
use Rattle.store.proofs.Drops.{left_more, seen_more}

pub tail_number : (kind : Kind) → eqb (kind_number kind) 2 ≡ is_tail kind
tail_number Kind.Whole = refl
tail_number Kind.Head = refl
tail_number (Kind.Tail p) = refl

-- a piece's stretch is what it adds to its reservation's deadline
pub stretch_due : (row : Row) → stretch_of row ≡ due row
stretch_due row = ap (λ b. cond b row.timing.budget row.timing.deadline) (tail_number row.kind)

pub stretch_le : (row : Row) → stretch_of row ≤ 100000
stretch_le row =
    cond_both (eqb (kind_number row.kind) 2) row.timing.budget row.timing.deadline (λ x. x ≤ 100000)
    (λ e. let t = row.timing in omega arith) (λ e. let t = row.timing in omega arith)

-- counts of rows, one row on
pub times_count : (p : ℕ) (row : Row) (rows : List Row) → times p (row ∷ rows) ≡ cond (eqb (part row.kind) p) (1 + times p rows) (times p rows)
times_count p row rows = elim (eqb (part row.kind) p) as (λ b. cond b 1 0 + times p rows ≡ cond b (1 + times p rows) (times p rows)) [ true ↦ refl | false ↦ omega arith ]

pub firsts_count : (row : Row) (rows : List Row) → firsts (row ∷ rows) ≡ cond (not (is_tail row.kind)) (1 + firsts rows) (firsts rows)
firsts_count row rows =
    ap (λ b. cond b 0 1 + firsts rows) (tail_number row.kind)
    ∙ elim (is_tail row.kind) as (λ b. cond b 0 1 + firsts rows ≡ cond (not b) (1 + firsts rows) (firsts rows)) [ true ↦ omega arith | false ↦ refl ]

once_step : (n : ℕ) (rows : List Row) → once_each (suc n) rows ≡ (eqb (times n rows) 1 && once_each n rows)
unfolding once_each
once_step n rows = refl

-- each part below a number is there once, and one is not
pub once_all : (n : ℕ) (rows : List Row) → ((k : ℕ) → k < n → times k rows ≡ 1) → once_each n rows ≡ true
unfolding once_each
once_all zero rows all = refl
once_all (suc n) rows all =
    let rest : once_each n rows ≡ true = once_all n rows (λ k h. all k (omega arith)) in
    rw (eq-eqb (times n rows) 1 (all n (omega arith))) rest

pub once_more :
    (n : ℕ) (rows : List Row) → 0 < n → times (n - 1) rows ≡ 1 → once_each n rows ≡ once_each (n - 1) rows
once_more n rows h e =
    let is : n ≡ suc (n - 1) = omega arith in
    ap (λ k. once_each k rows) is ∙ (once_step (n - 1) rows ∙ ap (λ b. b && once_each (n - 1) rows) (eq-eqb (times (n - 1) rows) 1 e))

pub once_none : (n : ℕ) (rows : List Row) → n ≡ 0 → once_each n rows ≡ true
unfolding once_each
once_none n rows e = rw e

pub once_not : (n : ℕ) (rows : List Row) (k : ℕ) → k < n → (times k rows ≡ 1 → ⊥) → once_each n rows ≡ false
unfolding once_each
once_not zero rows k h no_way = absurd (omega arith)
once_not (suc n) rows k h no_way =
    ⊎_elim
    (λ (less : k < n). once_step n rows ∙ (ap (λ b. eqb (times n rows) 1 && b) (once_not n rows k less no_way) ∙ both (eqb (times n rows) 1)))
    (λ (last : n ≤ k).
    let same : k ≡ n = omega arith in
    ap (λ b. b && once_each n rows) (ne_eqb (times n rows) 1 (λ e. no_way (ap (λ q. times q rows) same ∙ e))))
    (cases_lt k n)
  where
    both : (b : Bool) → (b && false) ≡ false
    both true = refl
    both false = refl

-- the answer to whether each is there once
pub once_is :
    (n : ℕ) (rows : List Row) (b : Bool) →
    MatchBool b (AllWithin (λ k. times k rows ≡ 1) (range_with_len 0 n) 0 (length (range_with_len 0 n)))
    ((i : ℕ) × (i < length (range_with_len 0 n)) × HoldsAt (λ k. times k rows ≡ 1 → ⊥) (range_with_len 0 n) i) →
    b ≡ once_each n rows
once_is n rows true all =
    sym (once_all n rows (λ k h.
    subst (λ q. times q rows ≡ 1) (get_or-range_with_len 0 n k 0 h ∙ zero-add k) (all k 0 (omega arith) (omega (arith, length-range_with_len 0 n)))))
once_is n rows false one =
    let h : one.0 < n = omega (arith, one.1, length-range_with_len 0 n) in
    sym (once_not n rows one.0 h
    (subst (λ q. times q rows ≡ 1 → ⊥) (get_or-range_with_len 0 n one.0 0 h ∙ zero-add one.0) (one.2 0)))

pub keys_sum : (lists : List (Few Row 32)) → keys (map held lists) ≡ sum_by (λ l. firsts (held l)) lists
keys_sum = is_sum_by (λ lists. keys (map held lists)) (λ l. firsts (held l)) refl (λ _ _. refl)

pub firsts_le : (rows : List Row) → firsts rows ≤ length rows
firsts_le [] = omega arith
firsts_le (row ∷ rows) =
    let ih : firsts rows ≤ length rows = firsts_le rows in
    cond_both (eqb (kind_number row.kind) 2) 0 1 (λ x. x + firsts rows ≤ length (row ∷ rows)) (λ e. omega arith) (λ e. omega arith)

pub keys_le : (lists : List (Few Row 32)) → keys (map held lists) ≤ 32 * length lists
keys_le [] = omega arith
keys_le (l ∷ lists) =
    let rest : keys (map held lists) ≤ 32 * length lists = keys_le lists in
    let here : firsts (held l) ≤ length (held l) = firsts_le (held l) in
    let few : length (held l) ≤ 32 = length_held l in
    omega arith

-- the rows of lists, one list after the other
pub flat_all : (lists : List (Few Row 32)) → flat_map held lists ≡ all_of (map held lists)
flat_all [] = refl
flat_all (l ∷ lists) = ap (λ rows. held l ++ rows) (flat_all lists)

-- the tests of rows and of processors, with those on from a place left, one on
pub alike_at :
    (t : ℕ) (rows : List Row) (i : ℕ) (row : Row) (b : Bool) → i < length rows → row ≡ get_or rows i row → b ≡ piece t row →
    alike t (drop i rows) ≡ (b && alike t (drop (i + 1) rows))
alike_at t rows i row b h is e = left_more (alike t) rows i row h is ∙ ap (λ x. x && alike t (drop (i + 1) rows)) (sym e)

pub times_hit :
    (p : ℕ) (rows : List Row) (i : ℕ) (row : Row) → i < length rows → row ≡ get_or rows i row → part row.kind ≡ p →
    times p (drop i rows) ≡ 1 + times p (drop (i + 1) rows)
times_hit p rows i row h is e =
    left_more (times p) rows i row h is ∙ ap (λ b. cond b 1 0 + times p (drop (i + 1) rows)) (eq-eqb (part row.kind) p e)

pub times_miss :
    (p : ℕ) (rows : List Row) (i : ℕ) (row : Row) → i < length rows → row ≡ get_or rows i row → (part row.kind ≡ p → ⊥) →
    times p (drop i rows) ≡ 0 + times p (drop (i + 1) rows)
times_miss p rows i row h is e =
    left_more (times p) rows i row h is ∙ ap (λ b. cond b 1 0 + times p (drop (i + 1) rows)) (ne_eqb (part row.kind) p e)

pub key_hit :
    (key : ℕ) (rows : List Row) (i : ℕ) (row : Row) → i < length rows → row ≡ get_or rows i row → row.key ≡ key →
    of_key key (drop i rows) ≡ row ∷ of_key key (drop (i + 1) rows)
key_hit key rows i row h is e =
    left_more (of_key key) rows i row h is
    ∙ ap (λ b. cond b (row ∷ of_key key (drop (i + 1) rows)) (of_key key (drop (i + 1) rows))) (eq-eqb row.key key e)

pub key_miss :
    (key : ℕ) (rows : List Row) (i : ℕ) (row : Row) → i < length rows → row ≡ get_or rows i row → (row.key ≡ key → ⊥) →
    of_key key (drop i rows) ≡ of_key key (drop (i + 1) rows)
key_miss key rows i row h is e =
    left_more (of_key key) rows i row h is
    ∙ ap (λ b. cond b (row ∷ of_key key (drop (i + 1) rows)) (of_key key (drop (i + 1) rows))) (ne_eqb row.key key e)

-- one more row that was pushed: what was found and what is left stay the same together
pub push_hit :
    (found after : List Row) (row : Row) (left left' goal : List Row) → after ≡ found ++ (row ∷ []) → left ≡ row ∷ left' →
    found ++ left ≡ goal → after ++ left' ≡ goal
push_hit found after row left left' goal pushed split so_far =
    ap (λ l. l ++ left') pushed ∙ (append_assoc found (row ∷ []) left' ∙ (ap (λ l. found ++ l) (sym split) ∙ so_far))

-- one processor on, where the rows of a key on it are known through a slice
pub apart_at :
    (key : ℕ) (plan : List (Few Row 32)) (i : ℕ) (x : Few Row 32) (rows : List Row) (b : Bool) → i < length plan → x ≡ get_or plan i x → rows ≡ held x →
    b ≡ leb (length (of_key key rows)) 1 →
    apart key (map held (drop i plan)) ≡ (b && apart key (map held (drop (i + 1) plan)))
apart_at key plan i x rows b h is same e =
    seen_more held (apart key) plan i x h is
    ∙ ap (λ t. t && apart key (map held (drop (i + 1) plan))) (sym (e ∙ ap (λ l. leb (length (of_key key l)) 1) same))

pub pieces_at :
    (key : ℕ) (plan : List (Few Row 32)) (i : ℕ) (x : Few Row 32) (rows found after goal : List Row) → i < length plan → x ≡ get_or plan i x →
    rows ≡ held x → after ≡ found ++ of_key key rows → found ++ pieces key (map held (drop i plan)) ≡ goal →
    after ++ pieces key (map held (drop (i + 1) plan)) ≡ goal
pieces_at key plan i x rows found after goal h is same e so_far =
    let rest = pieces key (map held (drop (i + 1) plan)) in
    ap (λ l. l ++ rest) (e ∙ ap (λ l. found ++ of_key key l) same)
    ∙ (append_assoc found (of_key key (held x)) rest
    ∙ (ap (λ l. found ++ l) (sym (seen_more held (pieces key) plan i x h is)) ∙ so_far))

pub firsts_at :
    (rows : List Row) (i : ℕ) (row : Row) (b v : Bool) → i < length rows → row ≡ get_or rows i row → b ≡ eqb (kind_number row.kind) 2 →
    b ≡ v → firsts (drop i rows) ≡ cond v 0 1 + firsts (drop (i + 1) rows)
firsts_at rows i row b v h is e known =
    left_more firsts rows i row h is ∙ ap (λ x. cond x 0 1 + firsts (drop (i + 1) rows)) (sym e ∙ known)
