-- Records read by number, one on, and rows picked along a chain. Assumes nothing.
use Rattle.std.proofs.Common.{◌≡◌, ℕ, suc, ◌+◌, ◌-◌, ◌<◌, ◌≤◌, true, false, List, [], ◌∷◌, ◌++◌, map, length, get_or, take, Some, None, refl, sym, ap, ◌∙◌, ⊎_elim, arith, length-take}
use Rattle.std.proofs.lemmas.List.{map_more, map_push, get_or_append_left, get_or_push, get_or_read}
use Rattle.std.proofs.lemmas.Bool.{cases_lt}
use Rattle.std.proofs.ByRecursion.{All-get_or}
use Rattle.model.specs.declared.row.Row.{Row}
use Rattle.processor.specs.declared.few.Few.{Few}
use Rattle.processor.specs.Few.{held}
use Rattle.store.specs.declared.entry.Entry.{Entry}
use Rattle.store.specs.declared.fault.BufferRule.{BufferRule}
use Rattle.store.specs.Fault.{fault}
use Rattle.store.specs.Record.{entry, bad_entry}
use Rattle.store.specs.Records.{record_fault, picked, Numbered}

pub record_suc :
    (says : ℕ → Entry) (left number : ℕ) → bad_entry (says number) ≡ false →
    record_fault says (suc left) number ≡ record_fault says left (number + 1)
unfolding record_fault
record_suc says left number good = rw good

pub record_stop :
    (says : ℕ → Entry) (left number : ℕ) → bad_entry (says number) ≡ true →
    record_fault says (suc left) number ≡ Some (fault BufferRule.Record number)
unfolding record_fault
record_stop says left number bad = rw bad

pub record_more :
    (says : ℕ → Entry) (r number : ℕ) → number ≤ r → bad_entry (says number) ≡ false →
    record_fault says (r + 1 - number) number ≡ record_fault says (r + 1 - (number + 1)) (number + 1)
record_more says r number h good =
    let e : r + 1 - number ≡ suc (r + 1 - (number + 1)) = omega arith in rw e (record_suc says (r + 1 - (number + 1)) number good)

pub record_refused :
    (says : ℕ → Entry) (r number : ℕ) → number ≤ r → bad_entry (says number) ≡ true →
    record_fault says (r + 1 - number) number ≡ Some (fault BufferRule.Record number)
record_refused says r number h bad =
    let e : r + 1 - number ≡ suc (r - number) = omega arith in rw e (record_stop says (r - number) number bad)

pub record_all : (says : ℕ → Entry) (left number : ℕ) → left ≡ 0 → record_fault says left number ≡ None
unfolding record_fault
record_all says left number e = rw e

-- one more row that was read
pub read_more :
    (says : ℕ → Entry) (rows after : List Row) (row : Row) → after ≡ rows ++ (row ∷ []) → entry row ≡ says (length rows + 1) →
    ((k : ℕ) (d : Row) → k < length rows → entry (get_or rows k d) ≡ says (k + 1)) →
    (k : ℕ) (d : Row) → k < length rows + 1 → entry (get_or after k d) ≡ says (k + 1)
read_more says rows after row pushed here before k d h =
    rw pushed
    (⊎_elim
    (λ (less : k < length rows). rw (get_or_append_left rows (row ∷ []) d k less) (before k d less))
    (λ (last : length rows ≤ k).
    let same : k ≡ length rows = omega arith in rw (same, get_or_push rows row d (length rows) refl) here)
    (cases_lt k (length rows)))

pub picks_more :
    (rows : List Row) (chains : List (Few ℕ 32)) (i : ℕ) (chain : Few ℕ 32) (before after : List (List Row)) (new : List Row) → i < length chains →
    chain ≡ get_or chains i chain → ((d : Row) → new ≡ picked rows d (held chain)) → after ≡ before ++ (new ∷ []) →
    ((d : Row) → before ≡ map (picked rows d) (map held (take i chains))) → (d : Row) →
    after ≡ map (picked rows d) (map held (take (i + 1) chains))
picks_more rows chains i chain before after new h is here pushed so_far d =
    rw (pushed, so_far d, here d, map_more held chains i chain h, ← is, map_push (picked rows d) (map held (take i chains)) (held chain)) refl

pub length_held : {X : Type 0} {n : ℕ} (l : Few X n) → length (held l) ≤ n
length_held l = omega (arith, length-take l.len l.items)

-- the number at a place of a chain
pub numbered_at : (r : ℕ) (numbers : List ℕ) (i : ℕ) → i < length numbers → Numbered r numbers → (1 ≤ get_or numbers i 0) × (get_or numbers i 0 ≤ r)
numbered_at r numbers i h all = All-get_or (λ n. (1 ≤ n) × (n ≤ r)) numbers i 0 h all

-- one more row that was picked along a chain
pub pick_more :
    (rows : List Row) (numbers : List ℕ) (i : ℕ) (row : Row) (before after : List Row) → i < length numbers →
    get_or numbers i 0 - 1 < length rows → row ≡ get_or rows (get_or numbers i 0 - 1) row → after ≡ before ++ (row ∷ []) →
    ((d : Row) → before ≡ picked rows d (take i numbers)) → (d : Row) → after ≡ picked rows d (take (i + 1) numbers)
pick_more rows numbers i row before after h within is pushed so_far d =
    pushed ∙ (ap (λ l. l ++ (row ∷ [])) (so_far d)
    ∙ (ap (λ x. picked rows d (take i numbers) ++ (x ∷ [])) (get_or_read rows (get_or numbers i 0 - 1) row within is d)
    ∙ sym (map_more (λ n. get_or rows (n - 1) d) numbers i 0 h)))
