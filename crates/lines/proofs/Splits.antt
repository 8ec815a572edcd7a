-- The fields of a line are its parts between single spaces, but for those with no byte; how they follow each other in the line. Assumes nothing.
use Rattle.std.proofs.Common.{◌≡◌, ℕ, ◌+◌, ◌<◌, Bool, true, false, cond, not, ◌==◌, List, [], ◌∷◌, ◌++◌, length, get_or, take, drop, Option, Some, None, Bor, ap, refl, ◌∙◌, one-add, arith}
use Rattle.std.specs.List.{filter, slice_split, onto_first, slice_get, prefix_len, AllByRecursion}
use Rattle.std.specs.Option.{option_map, unwrap_or}
use Rattle.std.proofs.lemmas.Option.{unwrap_or-slice_get}
use Rattle.std.proofs.lemmas.List.{append-nil, append_assoc}
use Rattle.std.proofs.lemmas.Bool.{ne_eqb}
use Rattle.lines.specs.Fields.{is_space, is_other, ended, fields_after, fields}

abbrev pub has_byte : List ℕ → Bool
has_byte x = not (length x == 0)

-- a text in front of the first part
onto : List ℕ → List (List ℕ) → List (List ℕ)
onto f [] = f ∷ []
onto f (part ∷ parts) = (f ++ part) ∷ parts

onto_nothing : (parts : List (List ℕ)) → filter has_byte (onto [] parts) ≡ filter has_byte parts
unfolding onto
onto_nothing [] = refl
onto_nothing (part ∷ parts) = refl

onto_byte : (f : List ℕ) (b : ℕ) (parts : List (List ℕ)) → onto (f ++ (b ∷ [])) parts ≡ onto f (onto_first b parts)
unfolding onto
onto_byte f b [] = refl
onto_byte f b (part ∷ parts) = rw append_assoc

-- a part that is at its end is a field if it has a byte
ended_part : (f : List ℕ) (parts : List (List ℕ)) → filter has_byte (f ∷ parts) ≡ ended f (filter has_byte parts)
ended_part [] parts = refl
ended_part (a ∷ f) parts = rw (ne_eqb (length (a ∷ f)) 0 (λ e. omega arith))

fields_after_parts : (f l : List ℕ) → fields_after f l ≡ filter has_byte (onto f (slice_split is_space l))
unfolding onto
fields_after_parts f [] = rw append-nil (rw (ended_part f []))
fields_after_parts f (b ∷ l) = at (is_space b) (fields_after_parts [] l) (fields_after_parts (f ++ (b ∷ [])) l)
  where
    at : (t : Bool)
        → fields l ≡ filter has_byte (onto [] (slice_split is_space l))
        → fields_after (f ++ (b ∷ [])) l ≡ filter has_byte (onto (f ++ (b ∷ [])) (slice_split is_space l))
        → cond t (ended f (fields l)) (fields_after (f ++ (b ∷ [])) l)
        ≡ filter has_byte (onto f (cond t ([] ∷ slice_split is_space l) (onto_first b (slice_split is_space l))))
    at true end more = rw (append-nil, ended_part f (slice_split is_space l), end, onto_nothing (slice_split is_space l))
    at false end more = rw (more, onto_byte f b (slice_split is_space l))

pub fields_parts : (l : List ℕ) → filter has_byte (slice_split is_space l) ≡ fields l
fields_parts l = rw (fields_after_parts [] l, onto_nothing (slice_split is_space l))

-- a field that stands, or nothing
pub read_field : (fs : List (List ℕ)) (k : ℕ) (r : Option (Bor (List ℕ))) (d : Bor (List ℕ)) → option_map (λ x. x.now) r ≡ slice_get fs k → d.now ≡ []
    → (unwrap_or r d).now ≡ get_or fs k []
read_field fs k r d is none = now_or r ∙ (ap (λ o. unwrap_or o d.now) is ∙ rw none (unwrap_or-slice_get fs k []))
  where
    now_or : (r : Option (Bor (List ℕ))) → (unwrap_or r d).now ≡ unwrap_or (option_map (λ x. x.now) r) d.now
    now_or None = refl
    now_or (Some x) = refl

-- spaces in front part nothing
pub fields_past_spaces : (l : List ℕ) → fields (drop (prefix_len is_space l) l) ≡ fields l
fields_past_spaces [] = refl
fields_past_spaces (b ∷ l) = at (is_space b) refl (fields_past_spaces l)
  where
    at : (t : Bool) → is_space b ≡ t → fields (drop (prefix_len is_space l) l) ≡ fields l
        → fields (drop (cond t (1 + prefix_len is_space l) 0) (b ∷ l)) ≡ fields (b ∷ l)
    at true e before = rw (one-add, e) before
    at false e before = refl

-- a part goes on to the next space
pub fields_to_space : (f l : List ℕ) →
    fields_after f l ≡ ended (f ++ take (prefix_len is_other l) l) (fields (drop (prefix_len is_other l) l))
fields_to_space f [] = rw append-nil
fields_to_space f (b ∷ l) = at (is_space b) refl (fields_to_space (f ++ (b ∷ [])) l)
  where
    at : (t : Bool) → is_space b ≡ t
        → fields_after (f ++ (b ∷ [])) l ≡ ended ((f ++ (b ∷ [])) ++ take (prefix_len is_other l) l) (fields (drop (prefix_len is_other l) l))
        → cond t (ended f (fields l)) (fields_after (f ++ (b ∷ [])) l)
        ≡ ended (f ++ take (cond (not t) (1 + prefix_len is_other l) 0) (b ∷ l)) (fields (drop (cond (not t) (1 + prefix_len is_other l) 0) (b ∷ l)))
    at true e more = rw (append-nil, e)
    at false e more = rw one-add (rw append_assoc at more)

-- no space stands in front once the spaces there are gone
pub spaces_gone : (l : List ℕ) → prefix_len is_space (drop (prefix_len is_space l) l) ≡ 0
spaces_gone [] = refl
spaces_gone (b ∷ l) = at (is_space b) refl (spaces_gone l)
  where
    at : (t : Bool) → is_space b ≡ t → prefix_len is_space (drop (prefix_len is_space l) l) ≡ 0
        → prefix_len is_space (drop (cond t (1 + prefix_len is_space l) 0) (b ∷ l)) ≡ 0
    at true e before = rw one-add before
    at false e before = rw e

-- what begins with no space begins with its first field
pub begins : (l : List ℕ) → prefix_len is_space l ≡ 0
    → (take (prefix_len is_other l) l ≡ get_or (fields l) 0 []) × (fields (drop (prefix_len is_other l) l) ≡ drop 1 (fields l))
begins [] none = (refl, refl)
begins (b ∷ l) none = at (is_space b) none (fields_to_space (b ∷ []) l)
  where
    at : (t : Bool) → cond t (1 + prefix_len is_space l) 0 ≡ 0
        → fields_after (b ∷ []) l ≡ (b ∷ take (prefix_len is_other l) l) ∷ fields (drop (prefix_len is_other l) l)
        → (take (cond (not t) (1 + prefix_len is_other l) 0) (b ∷ l) ≡ get_or (cond t (fields l) (fields_after (b ∷ []) l)) 0 [])
        × (fields (drop (cond (not t) (1 + prefix_len is_other l) 0) (b ∷ l)) ≡ drop 1 (cond t (fields l) (fields_after (b ∷ []) l)))
    at true e more = absurd (omega arith)
    at false e more = rw (one-add, more) (refl, refl)

-- the first field of a line, and the line after it: n spaces stand in front, and m other bytes behind them
pub next_is : (l t f r : List ℕ) (n m : ℕ) → n ≡ prefix_len is_space l → t ≡ drop n l → m ≡ prefix_len is_other t → f ≡ take m t → r ≡ drop m t
    → (f ≡ get_or (fields l) 0 []) × (fields r ≡ drop 1 (fields l))
next_is l t f r n m spaces here others first after =
    let none : prefix_len is_space t ≡ 0 = rw (here, spaces) (spaces_gone l) in
    let same : fields t ≡ fields l = rw (here, spaces) (fields_past_spaces l) in
    rw (first, after, others, ← same) (begins t none)

-- a field has at least one byte
pub fields_some : (f l : List ℕ) → AllByRecursion (λ x. 0 < length x) (fields_after f l)
fields_some [] [] = tt
fields_some (a ∷ f) [] = (omega arith, tt)
fields_some f (b ∷ l) = at (is_space b) f (fields_some [] l) (fields_some (f ++ (b ∷ [])) l)
  where
    at : (t : Bool) (g : List ℕ) → AllByRecursion (λ x. 0 < length x) (fields l) → AllByRecursion (λ x. 0 < length x) (fields_after (f ++ (b ∷ [])) l)
        → AllByRecursion (λ x. 0 < length x) (cond t (ended g (fields l)) (fields_after (f ++ (b ∷ [])) l))
    at true [] end more = end
    at true (a ∷ g) end more = (omega arith, end)
    at false g end more = more
