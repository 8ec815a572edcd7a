-- Reading numbers one after the other. Assumes nothing.
use Rattle.std.proofs.Common.{◌≡◌, ℕ, zero, suc, ◌+◌, ◌-◌, ◌<◌, ◌≤◌, List, [], ◌∷◌, ◌++◌, length, take, set, get_or, Ok, Err, Result, sym, ap, ◌∙◌, arith}
use Rattle.std.proofs.lemmas.List.{take_more_set, take_all, length-set}
use Rattle.model.specs.declared.fault.LineFault.{LineFault}
use Rattle.lines.specs.Numbers.{number_of, then_do}
use Rattle.benchlines.specs.Numbers.{said, number_at, checked, numbers_at, numbers_of}

numbers_more : (fs : List (List ℕ)) (from i : ℕ) → numbers_at fs from (i + 1) ≡ numbers_at fs from i ++ (number_at fs (from + i) ∷ [])
numbers_more fs from zero = let e : from ≡ from + 0 = omega arith in ap (λ k. number_at fs k ∷ []) e
numbers_more fs from (suc i) =
    let longer : suc i + 1 ≡ suc (i + 1) = omega arith in let e : from + 1 + i ≡ from + suc i = omega arith in
    ap (numbers_at fs from) longer
    ∙ ap (λ l. number_at fs from ∷ l) (numbers_more fs (from + 1) i ∙ ap (λ k. numbers_at fs (from + 1) i ++ (number_at fs k ∷ [])) e)

-- so far the numbers are those of their fields, and what is still to be checked decides
pub record Read (fs : List (List ℕ)) (from n i : ℕ) (numbers : List ℕ) : Type 0 where
  pub long : length numbers ≡ n
  pub values : take i numbers ≡ numbers_at fs from i
  pub left : checked fs (from + i) (n - i) ≡ checked fs from n

step : (fs : List (List ℕ)) (from n i : ℕ) (r : Result ℕ LineFault) → i < n → r ≡ number_of (get_or fs (from + i) []) →
    checked fs (from + i) (n - i) ≡ then_do r (λ x. checked fs (from + (i + 1)) (n - (i + 1)))
step fs from n i r h is =
    let left : n - i ≡ suc (n - (i + 1)) = omega arith in let next : from + i + 1 ≡ from + (i + 1) = omega arith in
    ap (checked fs (from + i)) left ∙ ap (λ k. then_do (number_of (get_or fs (from + i) [])) (λ x. checked fs k (n - (i + 1)))) next
    ∙ ap (λ v. then_do v (λ x. checked fs (from + (i + 1)) (n - (i + 1)))) (sym is)

pub read_more : (fs : List (List ℕ)) (from n i x : ℕ) (numbers : List ℕ) (r : Result ℕ LineFault) → i < n →
    r ≡ number_of (get_or fs (from + i) []) → r ≡ Ok x → Read fs from n i numbers → Read fs from n (i + 1) (set numbers i x)
read_more fs from n i x numbers r h is ok so_far = record {
  long = length-set numbers i x ∙ so_far.long;
  values =
      take_more_set numbers i x (omega arith) ∙ ap (λ l. l ++ (x ∷ [])) so_far.values
      ∙ ap (λ v. numbers_at fs from i ++ (said v ∷ [])) (sym ok ∙ is) ∙ sym (numbers_more fs from i);
  left = ap (λ v. then_do v (λ x. checked fs (from + (i + 1)) (n - (i + 1)))) (sym ok) ∙ sym (step fs from n i r h is) ∙ so_far.left;
}

pub read_stop : (fs : List (List ℕ)) (from n i : ℕ) (fault : LineFault) (numbers : List ℕ) (r : Result ℕ LineFault) → i < n →
    r ≡ number_of (get_or fs (from + i) []) → r ≡ Err fault → Read fs from n i numbers → Err fault ≡ numbers_of fs from n
read_stop fs from n i fault numbers r h is err so_far =
    let last = λ (v : Result (Unit {0}) LineFault). then_do v (λ u. Ok (numbers_at fs from n)) in
    ap (λ v. last (then_do v (λ x. checked fs (from + (i + 1)) (n - (i + 1))))) (sym err)
    ∙ ap last (sym (step fs from n i r h is) ∙ so_far.left)

pub read_all : (fs : List (List ℕ)) (from n i : ℕ) (numbers : List ℕ) → n ≤ i → i ≤ n → Read fs from n i numbers →
    Ok numbers ≡ numbers_of fs from n
read_all fs from n i numbers past upto so_far =
    let last = λ (v : Result (Unit {0}) LineFault). then_do v (λ u. Ok (numbers_at fs from n)) in
    let none : n - i ≡ 0 = omega arith in let end : i ≡ n = omega arith in
    ap Ok (sym (take_all i numbers (omega arith)) ∙ so_far.values ∙ ap (numbers_at fs from) end)
    ∙ ap (λ k. last (checked fs (from + i) k)) (sym none) ∙ ap last so_far.left
