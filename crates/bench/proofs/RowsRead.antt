-- Reading rows one after the other. Assumes nothing.
use Rattle.std.proofs.Common.{◌≡◌, ℕ, zero, suc, ◌+◌, ◌-◌, ◌*◌, ◌<◌, List, [], ◌∷◌, ◌++◌, length, get_or, None, Ok, Err, Result, sym, refl, ap, ◌∙◌, arith, lt-ltb}
use Rattle.std.proofs.lemmas.List.{append_assoc, append-nil}
use Rattle.model.specs.declared.timing.Timing.{Timing}
use Rattle.model.specs.declared.fault.RequestFault.{RequestFault}
use Rattle.model.specs.declared.fault.LineFault.{LineFault}
use Rattle.model.specs.Limits.{Timed}
use Rattle.processor.specs.Few.{pushed}
use Rattle.board.specs.Timed.{timed}
use Rattle.board.proofs.Timed.{timed_ok}
use Rattle.lines.specs.Numbers.{number_of, then_do}
use Rattle.benchlines.specs.Numbers.{number_at, numbers_at, checked, numbers_of}
use Rattle.bench.specs.Timings.{timing_by, timing_of, timing_at, with_first, timings_at, unless_line, timings_read, row_unless, timing_read}

pub timing_is : (c d t : ℕ) (r : Result Timing RequestFault) → Timed c d t r → r ≡ timing_of c d t
timing_is c d t (Ok x) h = sym (ap (λ f. timing_by f (timed c d t)) h.0 ∙ ap (timing_by None) (timed_ok c d t x h))
timing_is c d t (Err fault) h = sym (ap (λ f. timing_by f (timed c d t)) h)

-- timings that were read, before those that are still to be read
abbrev pub with_front : {E : Type 0} → List Timing → Result (List Timing) E → Result (List Timing) E
with_front xs (Ok ys) = Ok (xs ++ ys)
with_front xs (Err fault) = Err fault

front_none : {E : Type 0} (r : Result (List Timing) E) → with_front [] r ≡ r
front_none (Ok ys) = refl
front_none (Err fault) = refl

front_first : {E : Type 0} (xs : List Timing) (x : Timing) (rest : Result (List Timing) E) →
    with_front (xs ++ (x ∷ [])) rest ≡ with_front xs (with_first (Ok x) rest)
front_first xs x (Ok ys) = ap Ok (append_assoc xs (x ∷ []) ys)
front_first xs x (Err fault) = refl

-- rows are read one after the other: the first, which has so many behind it, then those
abbrev pub RowByRow : {E : Type 0} → (ℕ → ℕ → Result Timing E) → (ℕ → ℕ → Result (List Timing) E) → Type 0
RowByRow one rows = (place n : ℕ) → rows place (suc n) ≡ with_first (one place n) (rows (place + 3) n)

step : {E : Type 0} (one : ℕ → ℕ → Result Timing E) (rows : ℕ → ℕ → Result (List Timing) E) → RowByRow one rows → (first count i : ℕ) → i < count →
    rows (first + 3 * i) (count - i) ≡ with_first (one (first + 3 * i) (count - (i + 1))) (rows (first + 3 * (i + 1)) (count - (i + 1)))
step one rows by first count i h =
    let left : count - i ≡ suc (count - (i + 1)) = omega arith in let next : first + 3 * i + 3 ≡ first + 3 * (i + 1) = omega arith in
    ap (rows (first + 3 * i)) left ∙ by (first + 3 * i) (count - (i + 1))
    ∙ ap (λ k. with_first (one (first + 3 * i) (count - (i + 1))) (rows k (count - (i + 1)))) next

pub rows_none : {E : Type 0} (rows : ℕ → ℕ → Result (List Timing) E) (xs : List Timing) (first count : ℕ) → xs ≡ [] →
    with_front xs (rows (first + 3 * 0) (count - 0)) ≡ rows first count
rows_none rows xs first count e =
    let a : first + 3 * 0 ≡ first = omega arith in let b : count - 0 ≡ count = omega arith in
    ap (λ l. with_front l (rows (first + 3 * 0) (count - 0))) e ∙ front_none (rows (first + 3 * 0) (count - 0))
    ∙ ap (λ k. rows k (count - 0)) a ∙ ap (rows first) b

pub room_more : (xs ys : List Timing) (x : Timing) → length xs < 40 → ys ≡ pushed 40 xs x → ys ≡ xs ++ (x ∷ [])
room_more xs ys x room e = e ∙ rw (lt-ltb (length xs) 40 room) refl

pub rows_more : {E : Type 0} (one : ℕ → ℕ → Result Timing E) (rows : ℕ → ℕ → Result (List Timing) E) → RowByRow one rows →
    (first count i : ℕ) (xs ys : List Timing) (x : Timing) (r : Result Timing E) (all : Result (List Timing) E) →
    i < count → r ≡ one (first + 3 * i) (count - (i + 1)) → r ≡ Ok x → ys ≡ xs ++ (x ∷ []) →
    with_front xs (rows (first + 3 * i) (count - i)) ≡ all →
    with_front ys (rows (first + 3 * (i + 1)) (count - (i + 1))) ≡ all
rows_more one rows by first count i xs ys x r all h is ok longer inv =
    let rest = rows (first + 3 * (i + 1)) (count - (i + 1)) in
    ap (λ l. with_front l rest) longer ∙ front_first xs x rest ∙ ap (λ v. with_front xs (with_first v rest)) (sym ok ∙ is)
    ∙ ap (with_front xs) (sym (step one rows by first count i h)) ∙ inv

pub rows_stop : {E : Type 0} (one : ℕ → ℕ → Result Timing E) (rows : ℕ → ℕ → Result (List Timing) E) → RowByRow one rows →
    (first count i : ℕ) (xs : List Timing) (fault : E) (r : Result Timing E) (all : Result (List Timing) E) →
    i < count → r ≡ one (first + 3 * i) (count - (i + 1)) → r ≡ Err fault →
    with_front xs (rows (first + 3 * i) (count - i)) ≡ all → Err fault ≡ all
rows_stop one rows by first count i xs fault r all h is err inv =
    let rest = rows (first + 3 * (i + 1)) (count - (i + 1)) in
    ap (λ v. with_front xs (with_first v rest)) (sym err ∙ is) ∙ ap (with_front xs) (sym (step one rows by first count i h)) ∙ inv

pub rows_all : {E : Type 0} (rows : ℕ → ℕ → Result (List Timing) E) (place count i : ℕ) (xs : List Timing) (all : Result (List Timing) E) →
    rows place 0 ≡ Ok [] → i ≡ count → with_front xs (rows place (count - i)) ≡ all → Ok xs ≡ all
rows_all rows place count i xs all end e inv =
    let none : count - i ≡ 0 = omega arith in
    ap Ok (sym (append-nil xs)) ∙ ap (with_front xs) (sym end) ∙ ap (λ k. with_front xs (rows place k)) (sym none) ∙ inv

pub read_by_row : (fs : List (List ℕ)) → RowByRow (λ place n. timing_at fs place) (timings_at fs)
read_by_row fs place n = refl

checked_first : (r : Result ℕ LineFault) (all one two : Result (Unit {0}) LineFault) → all ≡ then_do one (λ u. two) →
    then_do r (λ x. all) ≡ then_do (then_do r (λ x. one)) (λ u. two)
checked_first (Ok x) all one two e = e
checked_first (Err fault) all one two e = refl

-- the fields that are to be checked are those of one part, then those of the other
pub checked_on : (fs : List (List ℕ)) (place m n : ℕ) → checked fs place (m + n) ≡ then_do (checked fs place m) (λ u. checked fs (place + m) n)
checked_on fs place zero n =
    let a : 0 + n ≡ n = omega arith in let b : place ≡ place + 0 = omega arith in ap (checked fs place) a ∙ ap (λ k. checked fs k n) b
checked_on fs place (suc m) n =
    let a : suc m + n ≡ suc (m + n) = omega arith in let b : place + 1 + m ≡ place + suc m = omega arith in
    ap (checked fs place) a ∙ checked_first (number_of (get_or fs place [])) (checked fs (place + 1) (m + n)) (checked fs (place + 1) m)
    (checked fs (place + suc m) n) (checked_on fs (place + 1) m n ∙ ap (λ k. then_do (checked fs (place + 1) m) (λ u. checked fs k n)) b)

first_unless : (own rest : Result (Unit {0}) LineFault) (row : Result Timing RequestFault) (rows : Result (List Timing) RequestFault) →
    unless_line (then_do own (λ u. rest)) (with_first row rows) ≡ with_first (row_unless own row rest) (unless_line rest rows)
first_unless (Err fault) rest row rows = refl
first_unless (Ok u) (Err fault) (Ok x) rows = refl
first_unless (Ok u) (Err fault) (Err broken) rows = refl
first_unless (Ok u) (Ok v) (Ok x) (Ok xs) = refl
first_unless (Ok u) (Ok v) (Ok x) (Err broken) = refl
first_unless (Ok u) (Ok v) (Err broken) rows = refl

pub checked_by_row : (fs : List (List ℕ)) → RowByRow (timing_read fs) (timings_read fs)
checked_by_row fs place n =
    let all : 3 * suc n ≡ 3 + 3 * n = omega arith in let rows = timings_at fs place (suc n) in
    ap (λ k. unless_line (checked fs place k) rows) all ∙ ap (λ c. unless_line c rows) (checked_on fs place 3 (3 * n))
    ∙ first_unless (checked fs place 3) (checked fs (place + 3) (3 * n)) (timing_at fs place) (timings_at fs (place + 3) n)

row_taken : (own : Result (Unit {0}) LineFault) (numbers taken : List ℕ) → Ok taken ≡ then_do own (λ u. Ok numbers) → (own ≡ Ok tt) × (taken ≡ numbers)
row_taken (Ok u) numbers taken is = (refl, cc)
row_taken (Err fault) numbers taken is = absurd (cc)

-- a row whose fields are numbers, and which breaks a limit
pub row_limited : (fs : List (List ℕ)) (place behind : ℕ) (taken : List ℕ) (row : Result Timing RequestFault) (broken : RequestFault) (rest : Result (Unit {0}) LineFault) (n : ℕ) →
    Ok taken ≡ numbers_of fs place 3 → row ≡ timing_of (get_or taken 0 0) (get_or taken 1 0) (get_or taken 2 0) → row ≡ Err broken →
    rest ≡ checked fs (place + 3) n → n ≡ 3 * behind → row_unless (Ok tt) (Err broken) rest ≡ timing_read fs place behind
row_limited fs place behind taken row broken rest n read is err told fields =
    let fine = row_taken (checked fs place 3) (numbers_at fs place 3) taken read in
    let third : place + 1 + 1 ≡ place + 2 = omega arith in
    ap (λ r. row_unless (Ok tt) r rest)
    (sym err ∙ is ∙ ap (λ l. timing_of (get_or l 0 0) (get_or l 1 0) (get_or l 2 0)) fine.1
    ∙ ap (λ k. timing_of (number_at fs place) (number_at fs (place + 1)) (number_at fs k)) third)
    ∙ ap (λ own. row_unless own (timing_at fs place) rest) (sym fine.0)
    ∙ ap (row_unless (checked fs place 3) (timing_at fs place)) (told ∙ ap (checked fs (place + 3)) fields)
