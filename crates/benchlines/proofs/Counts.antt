-- Fields are counted up to a number that no line may have: the rows are the same. Assumes nothing.
use Rattle.std.proofs.Common.{◌≡◌, ℕ, length, le-ltb, suc, ◌+◌, ◌-◌, ◌/◌, ◌<◌, ◌≤◌, min, true, false, ltb, List, [], get_or, Ok, Err, codes, Result, sym, refl, ap, ◌∙◌, arith}
use Rattle.std.proofs.lemmas.Bool.{cond-true, cond-false}
use native.Mathlib.Decide.{dec_le}
use borrow.Author.Tests.{lt-leb}
use Rattle.std.specs.Str.{bytes_eq}
use Rattle.model.specs.declared.fault.LineFault.{LineFault}
use Rattle.lines.specs.Fields.{fields}
use Rattle.lines.specs.Numbers.{number_of, then_do}
use Rattle.benchlines.specs.Numbers.{checked}
use Rattle.benchlines.specs.declared.task.Task.{Task}
use Rattle.benchlines.specs.Tasks.{rows_after, rows_task, task_among, task_of}

many : (first n : ℕ) → first ≤ 3 → 127 ≤ n → rows_after first n ≡ Err LineFault.Fields
many first n f h = rw (lt-leb ((n - first) / 3) 40 (omega arith)) refl

few : (first n : ℕ) → first ≤ 3 → rows_after first (min 127 n) ≡ rows_after first n
few first n f =
    elim (dec_le n 127) [
      | yes small ↦ let e : min 127 n ≡ n = omega arith in ap (rows_after first) e
      | no large ↦ let e : min 127 n ≡ 127 = omega arith in
          ap (rows_after first) e ∙ many first 127 f (omega arith) ∙ sym (many first n f (omega arith))
    ]

pub rows_counted : (word : List ℕ) (n count : ℕ) → count ≡ min 127 n → rows_task word count ≡ rows_task word n
rows_counted word n count e =
    ap (rows_task word) e ∙ simp (few 1 n (omega arith), few 3 n (omega arith))

-- a word that is none of those with a fixed number of fields asks for rows
among : (fs : List (List ℕ)) (word : List ℕ) → word ≡ get_or fs 0 [] →
    false ≡ bytes_eq word (codes "admit") → false ≡ bytes_eq word (codes "leave") → false ≡ bytes_eq word (codes "load") →
    false ≡ bytes_eq word (codes "save") → false ≡ bytes_eq word (codes "look") → task_among fs ≡ rows_task word (length fs)
among fs word is a b c d e = let first = sym is in rw (first, sym a, sym b, sym c, sym d, sym e) refl

pub task_last : (line word : List ℕ) (count : ℕ) (task : Result Task LineFault) → length line ≤ 12000 → true ≡ ltb 0 (length (fields line)) →
    word ≡ get_or (fields line) 0 [] → count ≡ min 127 (length (fields line)) →
    false ≡ bytes_eq word (codes "admit") → false ≡ bytes_eq word (codes "leave") → false ≡ bytes_eq word (codes "load") →
    false ≡ bytes_eq word (codes "save") → false ≡ bytes_eq word (codes "look") → task ≡ rows_task word count → task ≡ task_of line
task_last line word count task short some is number a b c d e rows =
    rows ∙ rows_counted word (length (fields line)) count number
    ∙ sym (among (fields line) word is a b c d e)
    ∙ sym (cond-true (ltb 0 (length (fields line))) (task_among (fields line)) (Ok Task.Blank) (sym some))
    ∙ sym (cond-false (ltb 12000 (length line)) (Err LineFault.Long) _ (le-ltb 12000 (length line) short))

step : (fs : List (List ℕ)) (place to : ℕ) → place < to →
    checked fs place (to - place) ≡ then_do (number_of (get_or fs place [])) (λ x. checked fs (place + 1) (to - (place + 1)))
step fs place to h = let e : to - place ≡ suc (to - (place + 1)) = omega arith in ap (checked fs place) e

pub checked_more : (fs : List (List ℕ)) (place to n : ℕ) (word : List ℕ) (read : Result ℕ LineFault) (all : Result (Unit {0}) LineFault) →
    place < to → word ≡ get_or fs place [] → read ≡ number_of word → read ≡ Ok n → checked fs place (to - place) ≡ all →
    checked fs (place + 1) (to - (place + 1)) ≡ all
checked_more fs place to n word read all h w r ok inv =
    ap (λ v. then_do v (λ x. checked fs (place + 1) (to - (place + 1)))) (sym ok ∙ r ∙ ap number_of w) ∙ sym (step fs place to h) ∙ inv

pub checked_stop : (fs : List (List ℕ)) (place to : ℕ) (word : List ℕ) (fault : LineFault) (read : Result ℕ LineFault) (all : Result (Unit {0}) LineFault) →
    place < to → word ≡ get_or fs place [] → read ≡ number_of word → read ≡ Err fault → checked fs place (to - place) ≡ all →
    Err fault ≡ all
checked_stop fs place to word fault read all h w r err inv =
    ap (λ v. then_do v (λ x. checked fs (place + 1) (to - (place + 1)))) (sym err ∙ r ∙ ap number_of w) ∙ sym (step fs place to h) ∙ inv
