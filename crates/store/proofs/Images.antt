-- The parts of an image, one row or one processor on, and their lengths. Assumes nothing.
use Rattle.std.proofs.Common.{◌≡◌, ℕ, ◌+◌, ◌-◌, ◌*◌, ◌<◌, ◌≤◌, List, [], ◌∷◌, ◌++◌, map, length, get_or, drop, refl, ◌∙◌, arith, length-append, length-drop}
use Rattle.model.specs.declared.row.Row.{Row}
use Rattle.processor.specs.declared.rows.Processor.{Processor}
use Rattle.processor.specs.Rows.{rows_of}
use Rattle.store.proofs.Drops.{seen_more, left_more}
use Rattle.std.specs.List.{sum_by}
use Rattle.std.proofs.lemmas.List.Recursion.{is_sum_by}
use Rattle.store.specs.Numbers.{two_bytes}
use Rattle.store.specs.Image.{record_bytes, first, chain_bytes, records_bytes, heads_bytes, row_count}

pub length_chain : (n : ℕ) (rows : List Row) → length (chain_bytes n rows) ≡ 18 * length rows
length_chain n [] = refl
length_chain n (row ∷ rows) =
    let ih : length (chain_bytes (n + 1) rows) ≡ 18 * length rows = length_chain (n + 1) rows in
    length-append (record_bytes (first (n + 1) (length rows)) row) (chain_bytes (n + 1) rows) ∙ omega arith

pub length_records : (n : ℕ) (plan : List (List Row)) → length (records_bytes n plan) ≡ 18 * row_count plan
length_records n [] = refl
length_records n (rows ∷ plan) =
    let ih : length (records_bytes (n + length rows) plan) ≡ 18 * row_count plan = length_records (n + length rows) plan in
    let here : length (chain_bytes n rows) ≡ 18 * length rows = length_chain n rows in
    length-append (chain_bytes n rows) (records_bytes (n + length rows) plan) ∙ omega arith

pub length_heads : (n : ℕ) (plan : List (List Row)) → length (heads_bytes n plan) ≡ 2 * length plan
length_heads n [] = refl
length_heads n (rows ∷ plan) =
    let ih : length (heads_bytes (n + length rows) plan) ≡ 2 * length plan = length_heads (n + length rows) plan in
    length-append (two_bytes (first n (length rows))) (heads_bytes (n + length rows) plan) ∙ omega arith

pub chain_more :
    (rows : List Row) (i : ℕ) (row : Row) (n next : ℕ) (bytes : List ℕ) → i < length rows → row ≡ get_or rows i row →
    bytes ≡ record_bytes next row → next ≡ first (n + 1) (length rows - i - 1) →
    chain_bytes n (drop i rows) ≡ bytes ++ chain_bytes (n + 1) (drop (i + 1) rows)
chain_more rows i row n next bytes h is is-bytes is-next =
    let left : length (drop (i + 1) rows) ≡ length rows - i - 1 = omega (arith, length-drop (i + 1) rows) in
    rw (is-bytes, is-next, ← left) (left_more (chain_bytes n) rows i row h is)

pub heads_more :
    (ps : List Processor) (i : ℕ) (p : Processor) (n head len : ℕ) (bytes : List ℕ) → i < length ps → p ≡ get_or ps i p →
    bytes ≡ two_bytes head → head ≡ first n len → len ≡ length (rows_of p) →
    heads_bytes n (map rows_of (drop i ps)) ≡ bytes ++ heads_bytes (n + len) (map rows_of (drop (i + 1) ps))
heads_more ps i p n head len bytes h is is-bytes is_head is-len =
    rw (is-bytes, is_head, is-len) (seen_more rows_of (heads_bytes n) ps i p h is)

pub records_more :
    (ps : List Processor) (i : ℕ) (p : Processor) (n len : ℕ) (rows : List Row) → i < length ps → p ≡ get_or ps i p →
    rows ≡ rows_of p → len ≡ length (rows_of p) →
    records_bytes n (map rows_of (drop i ps)) ≡ chain_bytes n rows ++ records_bytes (n + len) (map rows_of (drop (i + 1) ps))
records_more ps i p n len rows h is is-rows is-len =
    rw (is-rows, is-len) (seen_more rows_of (records_bytes n) ps i p h is)

pub row_count_sum : (ps : List Processor) → row_count (map rows_of ps) ≡ sum_by (λ p. length (rows_of p)) ps
row_count_sum = is_sum_by (λ ps. row_count (map rows_of ps)) (λ p. length (rows_of p)) refl (λ _ _. refl)

pub row_count_le : (ps : List Processor) → row_count (map rows_of ps) ≤ 32 * length ps
row_count_le [] = omega arith
row_count_le (p ∷ ps) =
    let rest : row_count (map rows_of ps) ≤ 32 * length ps = row_count_le ps in
    let few : length (rows_of p) ≤ 32 = omega (arith, p.few, p.rows.ok.0) in
    omega arith
