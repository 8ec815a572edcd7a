-- The chains, records and header of an image that save wrote. Assumes nothing.
use Rattle.std.proofs.Common.{◌≡◌, ℕ, zero, suc, ◌+◌, ◌-◌, ◌*◌, ◌<◌, ◌≤◌, Bool, true, false, cond, ltb, List, [], ◌∷◌, ◌++◌, map, length, get_or, take, drop, set, replicate, Some, Ok, sym, refl, ap, ◌∙◌, ap₂, append_assoc, arith}
use lib.Dec.{eqb-suc-zero}
use lib.ListN.{length-replicate}
use Rattle.std.specs.List.{AllByRecursion}
use Rattle.std.proofs.lemmas.List.{append-nil, drop-drop, drop_at, take_at, set_at, get_or-append-add, replicate_more}
use Rattle.std.proofs.lemmas.Bool.{or_from, le-ltb}
use Rattle.model.specs.declared.row.Row.{Row}
use Rattle.store.specs.declared.entry.Entry.{Entry}
use Rattle.store.specs.Image.{record_bytes, first, chain_bytes, records_bytes, heads_bytes, row_count}
use Rattle.store.specs.Record.{start, next_at, entry_at, entry, bad_entry}
use Rattle.store.specs.Records.{record_fault}
use Rattle.store.specs.Chains.{head_at, barred, reach, walk, walks, all_true}
use Rattle.store.proofs.Images.{length_chain}
use Rattle.store.proofs.ReadBack.{two_back, entry_back}
use Rattle.store.proofs.Walks.{walk_done, walk_suc, walks_suc, walks_all}
use Rattle.store.proofs.ByNumber.{record_suc}

-- so many records have been reached
abbrev pub flags : ℕ → List Bool
flags k = replicate k true ++ replicate (256 - k) false

-- numbers from n on
abbrev pub upto : ℕ → ℕ → List ℕ
upto n zero = []
upto n (suc k) = n ∷ upto (n + 1) k

-- the numbers of a plan's records
abbrev pub numbering : ℕ → List (List Row) → List (List ℕ)
numbering n [] = []
numbering n (rows ∷ plan) = upto n (length rows) ∷ numbering (n + length rows) plan

unset : (j : ℕ) → get_or (replicate j false) 0 false ≡ false
unset zero = refl
unset (suc j) = refl

flag_at : (k : ℕ) → get_or (flags k) k false ≡ false
flag_at k =
    let here = get_or-append-add (replicate k true) (replicate (256 - k) false) 0 false in
    let n : length (replicate k true) + 0 ≡ k = omega (arith, length-replicate k true) in
    ap (λ i. get_or (flags k) i false) (sym n) ∙ (here ∙ unset (256 - k))

flag_more : (k : ℕ) → k < 256 → set (flags k) k true ≡ flags (k + 1)
flag_more k h =
    let left : 256 - k ≡ suc (256 - (k + 1)) = omega arith in
    let rest = replicate (256 - (k + 1)) false in
    ap (λ n. set (replicate k true ++ replicate n false) k true) left
    ∙ (set_at (replicate k true) false rest true k (length-replicate k true)
    ∙ (sym (append_assoc (replicate k true) (true ∷ []) rest) ∙ ap (λ l. l ++ rest) (replicate_more k true)))

all_set : (k : ℕ) → all_true (replicate k true) ≡ true
all_set zero = refl
all_set (suc k) = all_set k

pub flags_full : (r : ℕ) → all_true (take r (flags r)) ≡ true
flags_full r =
    ap all_true (take_at (replicate r true) (replicate (256 - r) false) r (length-replicate r true)) ∙ all_set r

module _ (m : ℕ) (bytes : List ℕ) where
  -- record k + 1
  start_is : (k : ℕ) → start m (k + 1) ≡ 4 + 2 * m + 18 * k
  start_is k = omega arith

  record_next :
      (k next : ℕ) (row : Row) (rest : List ℕ) → drop (4 + 2 * m + 18 * k) bytes ≡ record_bytes next row ++ rest → next_at m bytes (k + 1) ≡ next
  record_next k next row rest e = two_back bytes _ (start m (k + 1)) next (ap (λ i. drop i bytes) (start_is k) ∙ e)

  record_entry :
      (k next : ℕ) (row : Row) (rest : List ℕ) → drop (4 + 2 * m + 18 * k) bytes ≡ record_bytes next row ++ rest → entry_at m bytes (k + 1) ≡ entry row
  record_entry k next row rest e = entry_back bytes rest (start m (k + 1)) next row (ap (λ i. drop i bytes) (start_is k) ∙ e)

  record_after :
      (k next : ℕ) (row : Row) (rest : List ℕ) → drop (4 + 2 * m + 18 * k) bytes ≡ record_bytes next row ++ rest → drop (4 + 2 * m + 18 * (k + 1)) bytes ≡ rest
  record_after k next row rest e =
      let n : 4 + 2 * m + 18 * k + 18 ≡ 4 + 2 * m + 18 * (k + 1) = omega arith in
      ap (λ i. drop i bytes) (sym n) ∙ (sym (drop-drop 18 (4 + 2 * m + 18 * k) bytes) ∙ ap (drop 18) e)

  pub chain_entries :
      (rows : List Row) (k : ℕ) (rest : List ℕ) → drop (4 + 2 * m + 18 * k) bytes ≡ chain_bytes (k + 1) rows ++ rest →
      map (entry_at m bytes) (upto (k + 1) (length rows)) ≡ map entry rows
  chain_entries [] k rest e = refl
  chain_entries (row ∷ rows) k rest e =
      let next = first (k + 1 + 1) (length rows) in
      let rest' = chain_bytes (k + 1 + 1) rows ++ rest in
      ap₂ (λ (x : Entry) (l : List Entry). x ∷ l) (record_entry k next row rest' e) (chain_entries rows (k + 1) rest (record_after k next row rest' e))

  pub chain_good :
      (rows : List Row) (k left : ℕ) (rest : List ℕ) → drop (4 + 2 * m + 18 * k) bytes ≡ chain_bytes (k + 1) rows ++ rest →
      AllByRecursion (λ row. bad_entry (entry row) ≡ false) rows →
      record_fault (entry_at m bytes) (length rows + left) (k + 1) ≡ record_fault (entry_at m bytes) left (k + length rows + 1)
  chain_good [] k left rest e good =
      let a : 0 + left ≡ left = omega arith in
      let b : k + 1 ≡ k + 0 + 1 = omega arith in
      ap₂ (record_fault (entry_at m bytes)) a b
  chain_good (row ∷ rows) k left rest e good =
      let next = first (k + 1 + 1) (length rows) in
      let rest' = chain_bytes (k + 1 + 1) rows ++ rest in
      let a : length (row ∷ rows) + left ≡ suc (length rows + left) = omega arith in
      let b : k + 1 + length rows + 1 ≡ k + length (row ∷ rows) + 1 = omega arith in
      ap (λ n. record_fault (entry_at m bytes) n (k + 1)) a
      ∙ (record_suc (entry_at m bytes) (length rows + left) (k + 1) (ap bad_entry (record_entry k next row rest' e) ∙ good.0)
      ∙ (chain_good rows (k + 1) left rest (record_after k next row rest' e) good.1
      ∙ ap (record_fault (entry_at m bytes) left) b))

  pub chain_walk :
      (rows : List Row) (r room k : ℕ) (so_far rest : List ℕ) → drop (4 + 2 * m + 18 * k) bytes ≡ chain_bytes (k + 1) rows ++ rest →
      length rows ≤ room → k + length rows ≤ r → r ≤ 256 →
      walk (next_at m bytes) r room (first (k + 1) (length rows)) so_far (flags k)
      ≡ Some (so_far ++ upto (k + 1) (length rows), flags (k + length rows))
  chain_walk [] r room k so_far rest e fits within few =
      let same : k ≡ k + 0 = omega arith in
      walk_done (next_at m bytes) r room 0 so_far (flags k) refl
      ∙ ap₂ (λ (a : List ℕ) (n : ℕ). Some (a, flags n)) (sym (append-nil so_far)) same
  chain_walk (row ∷ rows) r room k so_far rest e fits within few =
      let next = first (k + 1 + 1) (length rows) in
      let rest' = chain_bytes (k + 1 + 1) rows ++ rest in
      let back : k + 1 - 1 ≡ k = omega arith in
      let more : room ≡ suc (room - 1) = omega arith in
      let sums : k + 1 + length rows ≡ k + length (row ∷ rows) = omega arith in
      let free : barred r (flags k) (k + 1) ≡ false =
      or_from (ltb r (k + 1)) (get_or (flags k) (k + 1 - 1) false) (le-ltb r (k + 1) (omega arith))
      (ap (λ i. get_or (flags k) i false) back ∙ flag_at k) in
      let marked : reach (flags k) (k + 1) ≡ flags (k + 1) = ap (λ i. set (flags k) i true) back ∙ flag_more k (omega arith) in
      ap₂ (λ (n number : ℕ). walk (next_at m bytes) r n number so_far (flags k)) more (ap (λ b. cond b 0 (k + 1)) (eqb-suc-zero (length rows)))
      ∙ (walk_suc (next_at m bytes) r (room - 1) (k + 1) so_far (flags k) (λ z. omega arith) free
      ∙ (ap₂ (λ (number : ℕ) (l : List Bool). walk (next_at m bytes) r (room - 1) number (so_far ++ ((k + 1) ∷ [])) l) (record_next k next row rest' e) marked
      ∙ (chain_walk rows r (room - 1) (k + 1) (so_far ++ ((k + 1) ∷ [])) rest (record_after k next row rest' e) (omega arith) (omega arith) few
      ∙ ap₂ (λ (a : List ℕ) (n : ℕ). Some (a, flags n)) (append_assoc so_far ((k + 1) ∷ []) (upto (k + 1 + 1) (length rows))) sums)))

  -- the next processor's records begin where this one's end
  chain_after :
      (rows : List Row) (k : ℕ) (rest : List ℕ) → drop (4 + 2 * m + 18 * k) bytes ≡ chain_bytes (k + 1) rows ++ rest →
      drop (4 + 2 * m + 18 * (k + length rows)) bytes ≡ rest
  chain_after rows k rest e =
      let n : 4 + 2 * m + 18 * k + 18 * length rows ≡ 4 + 2 * m + 18 * (k + length rows) = omega arith in
      ap (λ i. drop i bytes) (sym n)
      ∙ (sym (drop-drop (18 * length rows) (4 + 2 * m + 18 * k) bytes)
      ∙ (ap (drop (18 * length rows)) e ∙ drop_at (chain_bytes (k + 1) rows) rest (18 * length rows) (length_chain (k + 1) rows)))

  module _ (r : ℕ) (few : r ≤ 256) where
    pub plan_walks :
        (plan : List (List Row)) (p k : ℕ) (so_far : List (List ℕ)) (heads rest : List ℕ) →
        drop (4 + 2 * p) bytes ≡ heads_bytes (k + 1) plan ++ heads → drop (4 + 2 * m + 18 * k) bytes ≡ records_bytes (k + 1) plan ++ rest →
        AllByRecursion (λ rows. length rows ≤ 32) plan → k + row_count plan ≤ r →
        walks (head_at bytes) (next_at m bytes) r (length plan) p so_far (flags k)
        ≡ Ok (so_far ++ numbering (k + 1) plan, flags (k + row_count plan))
    plan_walks [] p k so_far heads rest h e short within =
        let same : k ≡ k + 0 = omega arith in
        walks_all (head_at bytes) (next_at m bytes) r 0 p so_far (flags k) refl
        ∙ ap₂ (λ (a : List (List ℕ)) (n : ℕ). Ok (a, flags n)) (sym (append-nil so_far)) same
    plan_walks (rows ∷ plan) p k so_far heads rest h e short within =
        let numbers = upto (k + 1) (length rows) in
        let swap : k + 1 + length rows ≡ k + length rows + 1 = omega arith in
        let sums : k + length rows + row_count plan ≡ k + row_count (rows ∷ plan) = omega arith in
        let on : 4 + 2 * p + 2 ≡ 4 + 2 * (p + 1) = omega arith in
        let here : drop (4 + 2 * m + 18 * k) bytes ≡ chain_bytes (k + 1) rows ++ (records_bytes (k + 1 + length rows) plan ++ rest) =
        e ∙ append_assoc (chain_bytes (k + 1) rows) (records_bytes (k + 1 + length rows) plan) rest in
        let head : head_at bytes p ≡ first (k + 1) (length rows) = two_back bytes _ (4 + 2 * p) (first (k + 1) (length rows)) h in
        let one = ap (λ n. walk (next_at m bytes) r 32 n [] (flags k)) head ∙ chain_walk rows r 32 k [] _ here short.0 (omega arith) few in
        let heads-on : drop (4 + 2 * (p + 1)) bytes ≡ heads_bytes (k + length rows + 1) plan ++ heads =
        ap (λ i. drop i bytes) (sym on) ∙ (sym (drop-drop 2 (4 + 2 * p) bytes) ∙ (ap (drop 2) h ∙ ap (λ n. heads_bytes n plan ++ heads) swap)) in
        let records-on = chain_after rows k _ here ∙ ap (λ n. records_bytes n plan ++ rest) swap in
        walks_suc (head_at bytes) (next_at m bytes) r (length plan) p so_far (flags k) numbers (flags (k + length rows)) one
        ∙ (plan_walks plan (p + 1) (k + length rows) (so_far ++ (numbers ∷ [])) heads rest heads-on records-on short.1 (omega arith)
        ∙ ap₂ (λ (a : List (List ℕ)) (n : ℕ). Ok (a, flags n))
        (append_assoc so_far (numbers ∷ []) (numbering (k + length rows + 1) plan) ∙ ap (λ n. so_far ++ (numbers ∷ numbering n plan)) (sym swap)) sums)

  pub plan_entries :
      (plan : List (List Row)) (k : ℕ) (rest : List ℕ) → drop (4 + 2 * m + 18 * k) bytes ≡ records_bytes (k + 1) plan ++ rest →
      map (map (entry_at m bytes)) (numbering (k + 1) plan) ≡ map (map entry) plan
  plan_entries [] k rest e = refl
  plan_entries (rows ∷ plan) k rest e =
      let swap : k + 1 + length rows ≡ k + length rows + 1 = omega arith in
      let here : drop (4 + 2 * m + 18 * k) bytes ≡ chain_bytes (k + 1) rows ++ (records_bytes (k + 1 + length rows) plan ++ rest) =
      e ∙ append_assoc (chain_bytes (k + 1) rows) (records_bytes (k + 1 + length rows) plan) rest in
      let records-on = chain_after rows k _ here ∙ ap (λ n. records_bytes n plan ++ rest) swap in
      ap₂ (λ (x : List Entry) (l : List (List Entry)). x ∷ l) (chain_entries rows k _ here)
      (ap (λ n. map (map (entry_at m bytes)) (numbering n plan)) swap ∙ plan_entries plan (k + length rows) rest records-on)

  pub plan_good :
      (plan : List (List Row)) (k left : ℕ) (rest : List ℕ) → drop (4 + 2 * m + 18 * k) bytes ≡ records_bytes (k + 1) plan ++ rest →
      AllByRecursion (AllByRecursion (λ row. bad_entry (entry row) ≡ false)) plan →
      record_fault (entry_at m bytes) (row_count plan + left) (k + 1) ≡ record_fault (entry_at m bytes) left (k + row_count plan + 1)
  plan_good [] k left rest e good =
      let a : 0 + left ≡ left = omega arith in
      let b : k + 1 ≡ k + 0 + 1 = omega arith in
      ap₂ (record_fault (entry_at m bytes)) a b
  plan_good (rows ∷ plan) k left rest e good =
      let swap : k + 1 + length rows ≡ k + length rows + 1 = omega arith in
      let here : drop (4 + 2 * m + 18 * k) bytes ≡ chain_bytes (k + 1) rows ++ (records_bytes (k + 1 + length rows) plan ++ rest) =
      e ∙ append_assoc (chain_bytes (k + 1) rows) (records_bytes (k + 1 + length rows) plan) rest in
      let records-on = chain_after rows k _ here ∙ ap (λ n. records_bytes n plan ++ rest) swap in
      let a : row_count (rows ∷ plan) + left ≡ length rows + (row_count plan + left) = omega arith in
      let b : k + length rows + row_count plan + 1 ≡ k + row_count (rows ∷ plan) + 1 = omega arith in
      ap (λ n. record_fault (entry_at m bytes) n (k + 1)) a
      ∙ (chain_good rows k (row_count plan + left) _ here good.0
      ∙ (plan_good plan (k + length rows) left rest records-on good.1 ∙ ap (record_fault (entry_at m bytes) left) b))
