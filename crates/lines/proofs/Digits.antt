-- Reading a number digit by digit. Assumes nothing.
use Rattle.std.proofs.Common.{◌≡◌, ℕ, ◌+◌, ◌-◌, ◌*◌, ◌<◌, ◌≤◌, Bool, true, false, cond, ◌&&◌, leb, List, [], ◌∷◌, length, get_or, drop, Ok, Err, sym, refl, ap, ◌∙◌, arith}
use Rattle.std.proofs.lemmas.Bool.{lt-leb, leb-false, and_right}
use Rattle.std.proofs.lemmas.List.{at_drop_more}
use Rattle.model.specs.declared.fault.LineFault.{LineFault}
use Rattle.lines.specs.Numbers.{is_digit, all_digits, value_after, number_after, then_do}

value_grows : (v : ℕ) (l : List ℕ) → v ≤ value_after v l
value_grows v [] = omega arith
value_grows v (b ∷ l) = omega (arith, value_grows (v * 10 + (b - 48)) l)

number_large : (v : ℕ) (l : List ℕ) → 4294967295 < v → number_after v l ≡ Err LineFault.Number
number_large v l large =
    rw (and_right (all_digits l) _ (lt-leb (value_after v l) 4294967295 (omega (arith, value_grows v l))))

-- a digit, and then the others
number_first : (v b : ℕ) (l : List ℕ) → number_after v (b ∷ l) ≡ then_do (number_after v (b ∷ [])) (λ w. number_after w l)
number_first v b l = at (is_digit b) (leb (v * 10 + (b - 48)) 4294967295) refl
  where
    at : (digit small : Bool) → leb (v * 10 + (b - 48)) 4294967295 ≡ small
        → cond ((digit && all_digits l) && leb (value_after (v * 10 + (b - 48)) l) 4294967295) (Ok (value_after (v * 10 + (b - 48)) l)) (Err LineFault.Number)
        ≡ then_do (cond ((digit && true) && small) (Ok (v * 10 + (b - 48))) (Err LineFault.Number)) (λ w. number_after w l)
    at false small e = refl
    at true true e = refl
    at true false e = number_large (v * 10 + (b - 48)) l (leb-false _ _ e)

-- the byte at i of a text f, after a value v, where it makes no number
pub number_stops : (v : ℕ) (f : List ℕ) (i : ℕ) (e : LineFault) → i < length f → Err e ≡ number_after v (get_or f i 0 ∷ []) → number_after v (drop i f) ≡ Err e
number_stops v f i e here bad =
    at_drop_more (number_after v) f i 0 here
    ∙ (number_first v (get_or f i 0) (drop (i + 1) f) ∙ ap (λ r. then_do r (λ x. number_after x (drop (i + 1) f))) (sym bad))
