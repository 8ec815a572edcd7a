-- Lists filled one element after the other, and the judge asked about one processor after the other. Assumes nothing.
use Rattle.std.proofs.Common.{◌≡◌, ℕ, ◌+◌, ◌<◌, Bool, true, false, cond, List, [], ◌∷◌, ◌++◌, map, length, get_or, take, drop, set, Some, Ok, Err, Result, sym, refl, ap, ◌∙◌, arith}
use Rattle.std.proofs.lemmas.List.{take_more_set, map-id, map_push}
use Rattle.model.specs.declared.timing.Timing.{Timing}
use Rattle.model.specs.declared.row.Row.{Row}
use Rattle.model.specs.Row.{timings}
use Rattle.processor.specs.declared.rows.Processor.{Processor}
use Rattle.processor.specs.Rows.{rows_of}
use Rattle.processor.specs.declared.few.Few.{Few}
use Rattle.processor.specs.Few.{held}
use Rattle.store.specs.declared.fault.BufferFault.{BufferFault}
use Rattle.store.specs.declared.fault.BufferRule.{BufferRule}
use Rattle.store.specs.Fault.{fault}
use Rattle.store.specs.Judged.{judge_fault}
use Rattle.store.proofs.Drops.{seen_more, taken_more}

pub timings_more :
    (list : List Timing) (rows : List Row) (i : ℕ) (row : Row) → i < length list → i < length rows → row ≡ get_or rows i row →
    take i list ≡ timings (take i rows) → take (i + 1) (set list i row.timing) ≡ timings (take (i + 1) rows)
timings_more list rows i row within h is so_far =
    take_more_set list i row.timing within
    ∙ (ap (λ l. l ++ (row.timing ∷ [])) so_far ∙ sym (taken_more (λ r. r.timing) rows i row h is))

-- one more row of those that are copied
pub copied_more :
    (before after rows : List Row) (i : ℕ) (row : Row) → i < length rows → row ≡ get_or rows i row → after ≡ before ++ (row ∷ []) →
    before ≡ take i rows → after ≡ take (i + 1) rows
copied_more before after rows i row h is pushed so_far =
    pushed ∙ (ap (λ l. l ++ (row ∷ [])) (so_far ∙ sym (map-id (take i rows)))
    ∙ (sym (taken_more (λ (r : Row). r) rows i row h is) ∙ map-id (take (i + 1) rows)))

-- one more processor that is refilled
pub refilled_more :
    (items : List Processor) (plan : List (Few Row 32)) (i : ℕ) (new : Processor) (x : Few Row 32) (rows : List Row) → i < length items → i < length plan →
    x ≡ get_or plan i x → rows ≡ held x → rows_of new ≡ rows → map rows_of (take i items) ≡ map held (take i plan) →
    map rows_of (take (i + 1) (set items i new)) ≡ map held (take (i + 1) plan)
refilled_more items plan i new x rows within h is same filled so_far =
    ap (map rows_of) (take_more_set items i new within)
    ∙ (map_push rows_of (take i items) new
    ∙ (ap (λ l. l ++ (rows_of new ∷ [])) so_far
    ∙ (ap (λ q. map held (take i plan) ++ (q ∷ [])) (filled ∙ same) ∙ sym (taken_more held plan i x h is))))

pub judge_at :
    (accepts : List Timing → Bool) (plan : List (Few Row 32)) (i : ℕ) (x : Few Row 32) (b : Bool) → i < length plan → x ≡ get_or plan i x →
    accepts (timings (held x)) ≡ b →
    judge_fault accepts (i + 1) (map held (drop i plan))
    ≡ cond b (judge_fault accepts (i + 1 + 1) (map held (drop (i + 1) plan))) (Some (fault BufferRule.Judge (i + 1)))
judge_at accepts plan i x b h is e =
    seen_more held (judge_fault accepts (i + 1)) plan i x h is
    ∙ ap (λ t. cond t (judge_fault accepts (i + 1 + 1) (map held (drop (i + 1) plan))) (Some (fault BufferRule.Judge (i + 1)))) e

-- what an answer about one processor's rows says
pub judge_passed :
    (b : Bool) (f : BufferFault) (x : Unit {0}) (r : Result (Unit {0}) BufferFault) → r ≡ cond b (Ok tt) (Err f) → r ≡ Ok x → b ≡ true
judge_passed true f x r value ok = refl
judge_passed false f x r value ok = let z : ◌≡◌ {A = ℕ} 0 1 = cc in absurd (omega arith)

pub judge_refused :
    (b : Bool) (f e : BufferFault) (r : Result (Unit {0}) BufferFault) → r ≡ cond b (Ok tt) (Err f) → r ≡ Err e → (b ≡ false) × (e ≡ f)
judge_refused true f e r value err = let z : ◌≡◌ {A = ℕ} 0 1 = cc in absurd (omega arith)
judge_refused false f e r value err = (refl, cc)
