-- Steps through digits and bytes. Assumes nothing.
use Rattle.std.proofs.Common.{◌≡◌, ℕ, suc, ◌+◌, ◌*◌, ◌/◌, ◌%◌, ◌<◌, ◌≤◌, true, false, ◌&&◌, List, [], ◌∷◌, ◌++◌, map, length, get_or, take, drop, set, is_some, sym, refl, ap, ◌∙◌, arith}
use Rattle.std.specs.List.{flat_map}
use Rattle.std.specs.Simd.{first_chunks}
use Rattle.std.proofs.lemmas.List.{at_drop_more, take_all, take_more, flat_map_more, append_assoc, append-nil, take_more_set, take-append-drop, drop-set-lt, drop-drop}
use Rattle.benchlines.specs.Hex.{digit_value, all_digits, byte_of, bytes_of, hex_digit, digits_of}

-- the byte of two digits that stand in a list
abbrev pub pair_byte : List ℕ → ℕ
pair_byte pair = byte_of (get_or pair 0 0) (get_or pair 1 0)

pub bytes_of_pairs : (l : List ℕ) → map pair_byte (first_chunks 2 (length l / 2) l) ≡ bytes_of l
bytes_of_pairs [] = refl
bytes_of_pairs (a ∷ []) = refl
bytes_of_pairs (a ∷ (b ∷ l)) =
    let more : length (a ∷ (b ∷ l)) / 2 ≡ suc (length l / 2) = omega arith in
    ap (λ n. map pair_byte (first_chunks 2 n (a ∷ (b ∷ l)))) more
    ∙ ap (λ bytes. byte_of a b ∷ bytes) (bytes_of_pairs l)

-- the bytes of all the pairs are those of the text
pub all_pairs : (l front : List ℕ) (pairs : List (List ℕ)) (i : ℕ) → pairs ≡ first_chunks 2 (length l / 2) l → length pairs ≤ i
    → front ≡ map pair_byte (take i pairs) → front ≡ bytes_of l
all_pairs l front pairs i are past e = e ∙ ap (map pair_byte) (take_all i pairs past ∙ are) ∙ bytes_of_pairs l

pub digits_no : (l : List ℕ) (i : ℕ) → i < length l → is_some (digit_value (get_or l i 0)) ≡ false → all_digits (drop i l) ≡ false
digits_no l i h e = at_drop_more all_digits l i 0 h ∙ ap (λ t. t && all_digits (drop (i + 1) l)) e

pub digits_yes : (l : List ℕ) (i : ℕ) → i < length l → is_some (digit_value (get_or l i 0)) ≡ true → all_digits (drop i l) ≡ all_digits (drop (i + 1) l)
digits_yes l i h e = at_drop_more all_digits l i 0 h ∙ ap (λ t. t && all_digits (drop (i + 1) l)) e

pub pair_more : (l : List ℕ) (i : ℕ) → 2 * i + 1 < length l →
    bytes_of (drop (2 * i) l) ≡ byte_of (get_or l (2 * i) 0) (get_or l (2 * i + 1) 0) ∷ bytes_of (drop (2 * (i + 1)) l)
pair_more l i h =
    let v = byte_of (get_or l (2 * i) 0) (get_or l (2 * i + 1) 0) in
    let next : 2 * i + 1 + 1 ≡ 2 * (i + 1) = omega arith in
    at_drop_more bytes_of l (2 * i) 0 (omega arith)
    ∙ at_drop_more (λ r. bytes_of (get_or l (2 * i) 0 ∷ r)) l (2 * i + 1) 0 h
    ∙ ap (λ k. v ∷ bytes_of (drop k l)) next

pub short_none : (l : List ℕ) → length l < 2 → bytes_of l ≡ []
short_none [] h = refl
short_none (a ∷ []) h = refl
short_none (a ∷ (b ∷ l)) h = absurd (omega arith)

pub byte_more : (l : List ℕ) (i : ℕ) (s : List ℕ) → i < length l → s ≡ digits_of (take i l) →
    (s ++ (hex_digit (get_or l i 0 / 16) ∷ [])) ++ (hex_digit (get_or l i 0 % 16) ∷ []) ≡ digits_of (take (i + 1) l)
byte_more l i s h e =
    let f : ℕ → List ℕ = λ b. hex_digit (b / 16) ∷ (hex_digit (b % 16) ∷ []) in
    append_assoc s (hex_digit (get_or l i 0 / 16) ∷ []) (hex_digit (get_or l i 0 % 16) ∷ [])
    ∙ ap (λ t. t ++ f (get_or l i 0)) e
    ∙ flat_map_more f [] (take i l) (get_or l i 0)
    ∙ ap (flat_map f) (sym (take_more l i 0 h))

pub pushed_more : (l : List ℕ) (i : ℕ) (s mid last ea eb : List ℕ) (a b : ℕ) → i < length l → s ≡ digits_of (take i l)
    → mid ≡ s ++ ea → ea ≡ a ∷ [] → a ≡ hex_digit (get_or l i 0 / 16) → last ≡ mid ++ eb → eb ≡ b ∷ [] → b ≡ hex_digit (get_or l i 0 % 16)
    → last ≡ digits_of (take (i + 1) l)
pushed_more l i s mid last ea eb a b h e m ma va n nb vb =
    n ∙ ap (λ t. t ++ eb) (m ∙ ap (λ t. s ++ t) (ma ∙ ap (λ x. x ∷ []) va))
    ∙ ap (λ t. (s ++ (hex_digit (get_or l i 0 / 16) ∷ [])) ++ t) (nb ∙ ap (λ x. x ∷ []) vb)
    ∙ byte_more l i s h e

pub decoded_more : (l out : List ℕ) (i b : ℕ) → 2 * i + 1 < length l → i < length out
    → b ≡ byte_of (get_or l (2 * i) 0) (get_or l (2 * i + 1) 0)
    → take i out ++ bytes_of (drop (2 * i) l) ≡ bytes_of l
    → take (i + 1) (set out i b) ++ bytes_of (drop (2 * (i + 1)) l) ≡ bytes_of l
decoded_more l out i b h room is e =
    let rest = bytes_of (drop (2 * (i + 1)) l) in
    ap (λ t. t ++ rest) (take_more_set out i b room)
    ∙ append_assoc (take i out) (b ∷ []) rest
    ∙ ap (λ x. take i out ++ (x ∷ rest)) is
    ∙ ap (λ t. take i out ++ t) (sym (pair_more l i h))
    ∙ e

pub beyond_more : (out then : List ℕ) (i b : ℕ) → length then ≡ length out → i < length then → drop i then ≡ drop i out
    → drop (i + 1) (set then i b) ≡ drop (i + 1) out
beyond_more out then i b same room e =
    drop-set-lt (i + 1) then i b (omega arith) ∙ sym (drop-drop 1 i then) ∙ ap (drop 1) e ∙ drop-drop 1 i out

pub decoded_all : (l out then : List ℕ) (i n : ℕ) → i ≡ n → length (drop (2 * i) l) < 2
    → take i then ++ bytes_of (drop (2 * i) l) ≡ bytes_of l → drop i then ≡ drop i out → then ≡ bytes_of l ++ drop n out
decoded_all l out then i n same short front beyond =
    let all : take i then ≡ bytes_of l =
    sym (append-nil (take i then)) ∙ ap (λ t. take i then ++ t) (sym (short_none (drop (2 * i) l) short)) ∙ front in
    sym (take-append-drop i then) ∙ ap (λ t. take i then ++ t) beyond
    ∙ ap (λ t. t ++ drop i out) all ∙ ap (λ k. bytes_of l ++ drop k out) same

pub length_bytes : (l : List ℕ) → length (bytes_of l) ≡ length l / 2
length_bytes [] = refl
length_bytes (a ∷ []) = refl
length_bytes (a ∷ (b ∷ l)) = omega (arith, length_bytes l)
