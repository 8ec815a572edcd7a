-- Rows as lines, one after the other: those of an admission, and those that a withdrawal gathered. Assumes nothing.
use Rattle.std.proofs.Common.{◌≡◌, ℕ, ◌+◌, ◌<◌, ◌≤◌, min, ◌⊎◌, List, [], ◌∷◌, ◌++◌, map, length, get_or, take, drop, Ok, Result, sym, refl, ap, ◌∙◌, inl, inr, arith}
use native.Mathlib.Decide.{dec_le}
use Rattle.std.specs.List.{flat_map}
use Rattle.std.proofs.lemmas.List.{at_drop_more, at_drop_all, take_more, flat_map_more, append_assoc, append-nil, length-map}
use Rattle.model.specs.declared.row.Row.{Row}
use Rattle.model.specs.declared.fault.NamingFault.{NamingFault}
use Rattle.processor.specs.declared.rows.Processor.{Processor}
use Rattle.processor.specs.Rows.{rows_of}
use Rattle.processor.proofs.Steps.{step_map}
use Rattle.bench.specs.Rows.{gathered_line, gathered_text, left_text}
use Rattle.bench.specs.Answered.{withdrawn_text}

pub line_more : {X : Type 0} (f : X → List ℕ) (xs : List X) (i : ℕ) (x : X) (text line then : List ℕ) → i < length xs → x ≡ get_or xs i x →
    text ≡ flat_map f (take i xs) → line ≡ f x → then ≡ text ++ line → then ≡ flat_map f (take (i + 1) xs)
line_more f xs i x text line then here is before l t =
    t ∙ ap (λ a. a ++ line) before ∙ ap (λ a. flat_map f (take i xs) ++ a) l ∙ flat_map_more f [] (take i xs) x
    ∙ ap (flat_map f) (ap (λ y. take i xs ++ (y ∷ [])) is ∙ sym (take_more xs i x here))

step_both :
    (p : ℕ) (keys : List ℕ) (ps : List Processor) (i : ℕ) (x : Processor) →
    i < length keys → i < length ps → x ≡ get_or ps i x →
    gathered_text p (drop i keys) (drop i (map rows_of ps))
    ≡ gathered_line p (get_or keys i 0) (rows_of x) ++ gathered_text (p + 1) (drop (i + 1) keys) (drop (i + 1) (map rows_of ps))
step_both p keys ps i x hk hx here =
    at_drop_more (λ l. gathered_text p l (drop i (map rows_of ps))) keys i 0 hk
    ∙ step_map rows_of (λ l. gathered_text p (get_or keys i 0 ∷ drop (i + 1) keys) l) ps i x hx here

pub gathered_more :
    (keys : List ℕ) (ps : List Processor) (i : ℕ) (x : Processor) (text line then all : List ℕ) →
    i < length keys → i < length ps → x ≡ get_or ps i x → line ≡ gathered_line (i + 1) (get_or keys i 0) (rows_of x) → then ≡ text ++ line →
    text ++ gathered_text (i + 1) (drop i keys) (drop i (map rows_of ps)) ≡ all →
    then ++ gathered_text (i + 1 + 1) (drop (i + 1) keys) (drop (i + 1) (map rows_of ps)) ≡ all
gathered_more keys ps i x text line then all hk hx here l t inv =
    let rest = gathered_text (i + 1 + 1) (drop (i + 1) keys) (drop (i + 1) (map rows_of ps)) in
    ap (λ a. a ++ rest) t ∙ append_assoc text line rest ∙ ap (λ a. text ++ (a ++ rest)) l
    ∙ ap (λ a. text ++ a) (sym (step_both (i + 1) keys ps i x hk hx here)) ∙ inv

text_none : (p : ℕ) (keys : List ℕ) → gathered_text p keys [] ≡ []
text_none p [] = refl
text_none p (key ∷ keys) = refl

past_min : (a b i : ℕ) → min a b ≤ i → (a ≤ i) ⊎ (b ≤ i)
past_min a b i h = elim (dec_le a i) [ yes below ↦ inl below | no above ↦ inr (omega arith) ]

none_left :
    (p : ℕ) (keys : List ℕ) (plan : List (List Row)) (i : ℕ) → (length keys ≤ i) ⊎ (length plan ≤ i) →
    gathered_text p (drop i keys) (drop i plan) ≡ []
none_left p keys plan i (inl h) = at_drop_all (λ l. gathered_text p l (drop i plan)) keys i h
none_left p keys plan i (inr h) =
    at_drop_all (λ l. gathered_text p (drop i keys) l) plan i h ∙ text_none p (drop i keys)

pub gathered_all : (keys : List ℕ) (ps : List Processor) (i : ℕ) (text all : List ℕ) → min (length keys) (length ps) ≤ i →
    text ++ gathered_text (i + 1) (drop i keys) (drop i (map rows_of ps)) ≡ all → text ≡ all
gathered_all keys ps i text all h inv =
    let past = past_min (length keys) (length (map rows_of ps)) i (omega (arith, length-map ps rows_of)) in
    sym (append-nil text) ∙ ap (λ a. text ++ a) (sym (none_left (i + 1) keys (map rows_of ps) i past)) ∙ inv

-- what was written after a withdrawal is what it is answered with
pub withdrawn_is :
    (key : ℕ) (keys shown : List ℕ) (all lent : List Processor) (answer : Result (List ℕ) NamingFault) (plan : List (List Row)) →
    shown ≡ keys → lent ≡ all → Ok keys ≡ answer → map rows_of all ≡ plan →
    left_text key shown (map rows_of lent) ≡ withdrawn_text key plan answer
withdrawn_is key keys shown all lent answer plan s l a p =
    ap (λ k. left_text key k (map rows_of lent)) s
    ∙ ap (λ ps. left_text key keys (map rows_of ps)) l
    ∙ ap (λ q. withdrawn_text key q (Ok keys)) p
    ∙ ap (withdrawn_text key plan) a

-- once the keys or the processors have come to their end, nothing more was gathered
pub gathered_end : (p : ℕ) (keys : List ℕ) (ps : List Processor) → (length keys ≡ 0) ⊎ (length ps ≡ 0) → gathered_text p keys (map rows_of ps) ≡ []
gathered_end p [] ps h = refl
gathered_end p (key ∷ keys) [] h = refl
gathered_end p (key ∷ keys) (q ∷ ps) (inl h) = absurd (omega arith)
gathered_end p (key ∷ keys) (q ∷ ps) (inr h) = absurd (omega arith)
