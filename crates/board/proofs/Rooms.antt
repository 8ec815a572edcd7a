-- Rows that go to different processors with a free row find room, one after the other. Assumes nothing.
use Rattle.std.proofs.Common.{◌≡◌, ℕ, ◌+◌, ◌-◌, ◌<◌, ◌≤◌, Bool, true, false, ◌||◌, eqb, ◌≢◌, List, [], ◌∷◌, ◌++◌, reverse, length, get_or, sym, refl, ap, ◌∙◌, subst, arith}
use borrow.Author.Tests.{eqb-false}
use Rattle.std.proofs.lemmas.List.{length-set, get_or-set_other, reverse-append}
use Rattle.model.specs.declared.row.Row.{Row}
use Rattle.model.specs.declared.timing.Timing.{Timing}
use Rattle.board.specs.declared.cut.Cut.{Cut}
use Rattle.board.specs.declared.admission.Placed.{Placed}
use Rattle.std.specs.List.{list_any}
use Rattle.board.specs.Plan.{append}
use Rattle.board.specs.Place.{used}
use Rattle.board.specs.Split.{tails, split_rows}
use Rattle.board.specs.Admit.{Room}

-- processor p has a free row
abbrev pub Free : List (List Row) → ℕ → Type 0
Free plan p = (1 ≤ p) × (p ≤ length plan) × (length (get_or plan (p - 1) []) < 32)

-- a row goes to processor p
abbrev on : ℕ → Placed → Bool
on p row = eqb row.processor p

-- each row goes to a free processor, and no other row goes there
abbrev pub Clear : List (List Row) → List Placed → Type 0
Clear plan [] = Unit {0}
Clear plan (p ∷ rows) = Free plan p.processor × (list_any (on p.processor) rows ≡ false) × Clear plan rows

or_left : (a b : Bool) → a || b ≡ false → a ≡ false
or_left false b e = refl
or_left true b e = e

or_right : (a b : Bool) → a || b ≡ false → b ≡ false
or_right false b e = e
or_right true false e = refl
or_right true true e = e

-- a row more on p leaves another processor as it was
free_beside : (plan : List (List Row)) (p q : ℕ) (row : Row) → 1 ≤ p → q ≢ p → Free plan q → Free (append (p - 1) row plan) q
free_beside plan p q row low apart (some, within, room) =
    let other : q - 1 ≢ p - 1 = λ e. apart (omega arith) in (
      some,
      omega (arith, length-set plan (p - 1) (get_or plan (p - 1) [] ++ (row ∷ []))),
      omega (arith, ap length (get_or-set_other plan (p - 1) (q - 1) (get_or plan (p - 1) [] ++ (row ∷ [])) [] other), room),
    )

clear_beside :
    (plan : List (List Row)) (p : ℕ) (row : Row) (rows : List Placed) → 1 ≤ p → list_any (on p) rows ≡ false →
    Clear plan rows → Clear (append (p - 1) row plan) rows
clear_beside plan p row [] low none clear = tt
clear_beside plan p row (q ∷ rows) low none (free, alone, clear) = (
  free_beside plan p q.processor row low (eqb-false q.processor p (or_left (on p q) (list_any (on p) rows) none)) free,
  alone,
  clear_beside plan p row rows low (or_right (on p q) (list_any (on p) rows) none) clear,
)

pub room_from_clear : (plan : List (List Row)) (rows : List Placed) → Clear plan rows → Room plan rows
room_from_clear plan [] clear = tt
room_from_clear plan (p ∷ rows) ((some, within, room), alone, clear) = (
  some,
  within,
  room,
  room_from_clear (append (p.processor - 1) p.row plan) rows (clear_beside plan p.processor p.row rows some alone clear),
)

-- the same of tails, the latest first
abbrev pub Fresh : List (List Row) → List Cut → Type 0
Fresh plan [] = Unit {0}
Fresh plan (cut ∷ older) = Free plan cut.processor × (used older cut.processor ≡ false) × Fresh plan older

tails_used : (key part p : ℕ) (cuts : List Cut) → list_any (on p) (tails key part cuts) ≡ used cuts p
tails_used key part p [] = refl
tails_used key part p (cut ∷ cuts) = ap (λ b. eqb cut.processor p || b) (tails_used key (part + 1) p cuts)

tails_clear : (plan : List (List Row)) (key part : ℕ) (cuts : List Cut) → Fresh plan cuts → Clear plan (tails key part cuts)
tails_clear plan key part [] fresh = tt
tails_clear plan key part (cut ∷ cuts) (free, apart, fresh) =
    (free, tails_used key (part + 1) cut.processor cuts ∙ apart, tails_clear plan key (part + 1) cuts fresh)

-- the order does not matter
any_append : {A : Type 0} (test : A → Bool) (l m : List A) → list_any test l ≡ false → list_any test m ≡ false → list_any test (l ++ m) ≡ false
any_append test [] m a b = b
any_append test (x ∷ l) m a b =
    ap (λ t. t || list_any test (l ++ m)) (or_left (test x) (list_any test l) a) ∙ any_append test l m (or_right (test x) (list_any test l) a) b

any_reverse : {A : Type 0} (test : A → Bool) (l : List A) → list_any test l ≡ false → list_any test (reverse l) ≡ false
any_reverse test [] e = refl
any_reverse test (x ∷ l) e =
    ap (list_any test) (reverse-append (x ∷ []) l)
    ∙ any_append test (reverse l) (x ∷ []) (any_reverse test l (or_right (test x) (list_any test l) e))
    (ap (λ t. t || false) (or_left (test x) (list_any test l) e))

-- one tail more
pub fresh_more :
    (plan : List (List Row)) (cuts : List Cut) (cut : Cut) → Free plan cut.processor → used cuts cut.processor ≡ false →
    Fresh plan (reverse cuts) → Fresh plan (reverse (cuts ++ (cut ∷ [])))
fresh_more plan cuts cut free apart fresh =
    subst (Fresh plan) (sym (reverse-append cuts (cut ∷ [])))
    (free, any_reverse (λ c. eqb c.processor cut.processor) cuts apart, fresh)

pub split_room :
    (plan : List (List Row)) (key p : ℕ) (head : Timing) (cuts : List Cut) → Free plan p → used cuts p ≡ false →
    Fresh plan (reverse cuts) → Room plan (split_rows key p head cuts)
split_room plan key p head cuts free apart fresh =
    room_from_clear plan (split_rows key p head cuts)
    (free, tails_used key 1 p (reverse cuts) ∙ any_reverse (λ c. eqb c.processor p) cuts apart, tails_clear plan key 1 (reverse cuts) fresh)
