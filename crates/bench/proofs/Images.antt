-- An image of any plan of a board has room in 4,628 bytes, and a field of a line in as many as the line. Assumes nothing.
use Rattle.std.proofs.Common.{◌≡◌, ℕ, zero, suc, ◌+◌, ◌-◌, ◌*◌, ◌/◌, ◌≤◌, Bool, true, false, cond, ◌&&◌, ltb, leb, List, [], ◌∷◌, ◌++◌, map, length, get_or, take, Some, None, Ok, Err, Result, refl, ap, ◌∙◌, arith, length-append, ltb-false, le-ltb, le-leb, leb-true}
use Rattle.std.specs.List.{AllByRecursion}
use Rattle.std.specs.Result.{IsOk}
use Rattle.std.proofs.lemmas.List.{length-map, take_at}
use Rattle.processor.specs.declared.rows.Processor.{Processor}
use Rattle.processor.specs.Rows.{rows_of}
use Rattle.lines.specs.Fields.{is_space, ended, fields_after, fields}
use Rattle.model.specs.declared.fault.LineFault.{LineFault}
use Rattle.benchlines.specs.declared.task.Task.{Task}
use Rattle.benchlines.specs.Tasks.{task_among, task_of}
use Rattle.benchlines.specs.Hex.{is_image, bytes_of, fits, decoded}
use Rattle.benchlines.proofs.Hexes.{length_bytes}
use Rattle.store.specs.declared.fault.BufferFault.{BufferFault}
use Rattle.store.specs.Image.{image, row_count}
use Rattle.store.specs.declared.fault.BufferRule.{BufferRule}
use Rattle.store.specs.Fault.{fault}
use Rattle.store.proofs.Saves.{length_image}

few_rows : (ps : List Processor) → row_count (map rows_of ps) ≤ 32 * length ps
few_rows [] = omega arith
few_rows (p ∷ ps) = let here : length (rows_of p) ≤ 32 = omega (arith, p.few, p.rows.ok.0) in omega (arith, few_rows ps)

pub room : (ps : List Processor) → length ps ≤ 8 → length (image (map rows_of ps)) ≤ 4628
room ps h = omega (arith, length_image (map rows_of ps), length-map ps rows_of, few_rows ps)

-- what save answers with a buffer of 4,628 bytes, and what then stands at the buffer's front
fitting : (ps : List Processor) (n : ℕ) → length ps ≤ 8 → n ≡ 4628 → ltb n (length (image (map rows_of ps))) ≡ false
fitting ps n h long = le-ltb n (length (image (map rows_of ps))) (omega (arith, room ps h))

ok_by : (b : Bool) (r : Result ℕ BufferFault) (n : ℕ) (g : BufferFault) → b ≡ false → r ≡ cond b (Err g) (Ok n) → IsOk r
ok_by true r n g e is = absurd (cc)
ok_by false r n g e is = rw is refl

pub saved_ok : (ps : List Processor) (n : ℕ) (r : Result ℕ BufferFault) → length ps ≤ 8 → n ≡ 4628 →
    r ≡ cond (ltb n (length (image (map rows_of ps)))) (Err (fault BufferRule.Room 0)) (Ok (length (image (map rows_of ps)))) → IsOk r
saved_ok ps n r h long = ok_by (ltb n (length (image (map rows_of ps)))) r (length (image (map rows_of ps))) (fault BufferRule.Room 0) (fitting ps n h long)

long_by : (b : Bool) (m n : ℕ) (g : BufferFault) → b ≡ false → Ok m ≡ cond b (Err g) (Ok n) → m ≡ n
long_by true m n g e h = absurd (let z : ◌≡◌ {A = ℕ} 0 1 = cc in omega arith)
long_by false m n g e h = cc

pub image_front : (ps : List Processor) (n m : ℕ) (buffer rest then : List ℕ) → length ps ≤ 8 → n ≡ 4628 →
    Ok m ≡ cond (ltb n (length (image (map rows_of ps)))) (Err (fault BufferRule.Room 0)) (Ok (length (image (map rows_of ps)))) →
    then ≡ cond (ltb n (length (image (map rows_of ps)))) buffer (image (map rows_of ps) ++ rest) →
    take (m - 0) then ≡ image (map rows_of ps)
image_front ps n m buffer rest then h long value after =
    let bytes = image (map rows_of ps) in
    let e = fitting ps n h long in
    let count : m ≡ length bytes = long_by (ltb n (length bytes)) m (length bytes) (fault BufferRule.Room 0) e value in
    let all : length bytes ≡ m - 0 = omega arith in
    ap (take (m - 0)) (after ∙ rw e refl) ∙ take_at bytes rest (m - 0) all

short_if : (b : Bool) (x y : List (List ℕ)) (n : ℕ) → AllByRecursion (λ g. length g ≤ n) x → AllByRecursion (λ g. length g ≤ n) y → AllByRecursion (λ g. length g ≤ n) (cond b x y)
short_if true x y n hx hy = hx
short_if false x y n hx hy = hy

short_ended : (f : List ℕ) (fs : List (List ℕ)) (n : ℕ) → length f ≤ n → AllByRecursion (λ g. length g ≤ n) fs → AllByRecursion (λ g. length g ≤ n) (ended f fs)
short_ended [] fs n h all = all
short_ended (b ∷ f) fs n h all = (h, all)

short_fields : (f l : List ℕ) (n : ℕ) → length f + length l ≤ n → AllByRecursion (λ g. length g ≤ n) (fields_after f l)
short_fields f [] n h = short_ended f [] n (omega arith) tt
short_fields f (b ∷ l) n h =
    short_if (is_space b) (ended f (fields_after [] l)) (fields_after (f ++ (b ∷ [])) l) n
    (short_ended f (fields_after [] l) n (omega arith) (short_fields [] l n (omega arith)))
    (short_fields (f ++ (b ∷ [])) l n (omega (arith, length-append f (b ∷ []))))

short_at : (fs : List (List ℕ)) (k n : ℕ) → AllByRecursion (λ g. length g ≤ n) fs → length (get_or fs k []) ≤ n
short_at [] k n all = omega arith
short_at (f ∷ fs) zero n all = all.0
short_at (f ∷ fs) (suc k) n all = short_at fs k n all.1

pub field_short : (line : List ℕ) (k : ℕ) → length (get_or (fields line) k []) ≤ length line
field_short line k = short_at (fields line) k (length line) (short_fields [] line (length line) (omega arith))

short_by : (b : Bool) (t : Task) (r : Result Task LineFault) → Ok t ≡ cond b (Err LineFault.Long) r → b ≡ false
short_by true t r h = absurd (let z : ◌≡◌ {A = ℕ} 0 1 = cc in omega arith)
short_by false t r h = refl

pub line_short : (line : List ℕ) {t : Task} → Ok t ≡ task_of line → length line ≤ 12000
line_short line {t} h =
    ltb-false 12000 (length line)
    (short_by (ltb 12000 (length line)) t (cond (ltb 0 (length (fields line))) (task_among (fields line)) (Ok Task.Blank)) h)

decoded_by : (a b : Bool) (m n : ℕ) → Some n ≡ cond (a && b) (Some m) None → (a ≡ true) × (b ≡ true) × (n ≡ m)
decoded_by true true m n h = (refl, refl, cc)
decoded_by true false m n h = absurd (let z : ◌≡◌ {A = ℕ} 0 1 = cc in omega arith)
decoded_by false b m n h = absurd (let z : ◌≡◌ {A = ℕ} 0 1 = cc in omega arith)

undecoded_by : (a b : Bool) (m : ℕ) → b ≡ true → None ≡ cond (a && b) (Some m) None → a ≡ false
undecoded_by true true m e h = absurd (let z : ◌≡◌ {A = ℕ} 0 1 = cc in omega arith)
undecoded_by true false m e h = absurd (let z : ◌≡◌ {A = ℕ} 0 1 = cc in omega arith)
undecoded_by false b m e h = refl

pub no_image : (text : List ℕ) (room : ℕ) → length text / 2 ≤ room → None ≡ decoded text room → is_image text ≡ false
no_image text room h = undecoded_by (is_image text) (leb (length text / 2) room) (length text / 2) (le-leb (length text / 2) room h)

pub some_image : (text : List ℕ) (room n : ℕ) → Some n ≡ decoded text room → (is_image text ≡ true) × (n ≡ length text / 2) × (n ≤ room)
some_image text room n h =
    let d = decoded_by (is_image text) (leb (length text / 2) room) (length text / 2) n h in
    (d.0, d.2, omega (arith, leb-true (length text / 2) room d.1))

-- the bytes at the front of the buffer that digits were decoded into
pub decoded_front : (text : List ℕ) (room n : ℕ) (rest buffer then : List ℕ) → Some n ≡ decoded text room →
    then ≡ cond (fits text room) (bytes_of text ++ rest) buffer → take (n - 0) then ≡ bytes_of text
decoded_front text room n rest buffer then h t =
    let d = decoded_by (is_image text) (leb (length text / 2) room) (length text / 2) n h in
    let long : length (bytes_of text) ≡ n - 0 = omega (arith, d.2, length_bytes text) in
    ap (take (n - 0)) (t ∙ rw (d.0, d.1) refl) ∙ take_at (bytes_of text) rest (n - 0) long
