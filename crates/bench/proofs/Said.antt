-- What was done is answered with the text that says it. Assumes nothing.
use Rattle.std.proofs.Common.{◌≡◌, ℕ, Bool, true, false, cond, not, ◌&&◌, ltb, List, [], ℤ, length, get_or, Ok, Err, Result, String, sym, refl, subst, ◌∙◌}
use Rattle.std.specs.declared.alloc.AllocError.{AllocError}
use Rattle.model.specs.declared.timing.Timing.{Timing}
use Rattle.model.specs.declared.row.Row.{Row}
use Rattle.model.specs.declared.fault.LineFault.{LineFault}
use Rattle.lines.specs.Fields.{fields}
use Rattle.benchlines.specs.declared.task.Task.{Task}
use Rattle.benchlines.specs.Tasks.{blank, task_among, task_of}
use Rattle.benchlines.specs.Hex.{is_image, bytes_of}
use Rattle.bench.specs.Answered.{Says, LoadsDigits, LoadAnswered, AnsweredAs, Answered}

-- a reply that is one text is any equal text
pub says_as : {Z : Type 0} (reply : Result (String Z) AllocError) (a b : List ℕ) → a ≡ b → Says reply a → Says reply b
says_as (Ok s) a b e h = h ∙ e
says_as (Err x) a b e h = tt

loaded_as : {Z : Type 0} (reply : Result (String Z) AllocError) (told : List ℕ) (image : Bool) (accepts : List Timing → Bool)
    (bytes : List ℕ) (before after : List (List Row)) → Says reply told → LoadsDigits (λ text. told ≡ text) image accepts bytes before after
    → LoadsDigits (Says reply) image accepts bytes before after
loaded_as reply told true accepts bytes before after says (answer, loaded, e) = (answer, loaded, says_as reply told _ e says)
loaded_as reply told false accepts bytes before after says (same, e) = (same, says_as reply told _ e says)

pub said_as : {R Z : Type 0} (first : R → R → Bool) (ranks : ℕ → ℤ → ℕ → R) (accepts : List Timing → Bool) (allows : List Timing → ℕ → ℕ → ℕ)
    (fs : List (List ℕ)) (before : List (List Row)) (task : Result Task LineFault) (after : List (List Row)) (told : List ℕ)
    (reply : Result (String Z) AllocError) → Says reply told → AnsweredAs (λ text. told ≡ text) first ranks accepts allows fs before task after
    → Answered first ranks accepts allows fs before task after reply
said_as first ranks accepts allows fs before (Err fault) after told reply says h = (h.0, says_as reply told _ h.1 says)
said_as first ranks accepts allows fs before (Ok Task.Blank) after told reply says h = (h.0, says_as reply told _ h.1 says)
said_as first ranks accepts allows fs before (Ok Task.Admit) after told reply says h = (h.0, says_as reply told _ h.1 says)
said_as first ranks accepts allows fs before (Ok Task.Leave) after told reply says h = (h.0, says_as reply told _ h.1 says)
said_as first ranks accepts allows fs before (Ok Task.Load) after told reply says h =
    let digits = get_or fs 1 [] in loaded_as reply told (is_image digits) accepts (bytes_of digits) before after says h
said_as first ranks accepts allows fs before (Ok Task.Save) after told reply says h = (h.0, says_as reply told _ h.1 says)
said_as first ranks accepts allows fs before (Ok Task.Look) after told reply says h = (h.0, says_as reply told _ h.1 says)
said_as first ranks accepts allows fs before (Ok (Task.Judge rows)) after told reply says h = (h.0, says_as reply told _ h.1 says)
said_as first ranks accepts allows fs before (Ok (Task.Allow rows)) after told reply says h = (h.0, says_as reply told _ h.1 says)

pub load_is : {R : Type 0} (says : List ℕ → Type 0) (first : R → R → Bool) (ranks : ℕ → ℤ → ℕ → R) (accepts : List Timing → Bool)
    (allows : List Timing → ℕ → ℕ → ℕ) (line digits : List ℕ) (before after : List (List Row)) → Ok Task.Load ≡ task_of line →
    digits ≡ get_or (fields line) 1 [] → LoadAnswered says accepts digits before after
    → AnsweredAs says first ranks accepts allows (fields line) before (task_of line) after
load_is says first ranks accepts allows line digits before after is field h =
    subst (λ task. AnsweredAs says first ranks accepts allows (fields line) before task after) is
    (subst (λ d. LoadAnswered says accepts d before after) field h)

blank_by : (long some : Bool) (refused among none : Result Task LineFault) → (not long && not some) ≡ true →
    cond long refused (cond some among none) ≡ none
blank_by true some refused among none h = absurd (cc)
blank_by false true refused among none h = absurd (cc)
blank_by false false refused among none h = refl

blank_task : (line : List ℕ) → blank line ≡ true → task_of line ≡ Ok Task.Blank
blank_task line h =
    blank_by (ltb 12000 (length line)) (ltb 0 (length (fields line))) (Err LineFault.Long) (task_among (fields line)) (Ok Task.Blank) h

-- a blank line is answered with no text
pub blank_said : {R Z : Type 0} (first : R → R → Bool) (ranks : ℕ → ℤ → ℕ → R) (accepts : List Timing → Bool) (allows : List Timing → ℕ → ℕ → ℕ)
    (line : List ℕ) (plan : List (List Row)) (reply : Result (String Z) AllocError) → true ≡ blank line → Says reply []
    → Answered first ranks accepts allows (fields line) plan (task_of line) plan reply
blank_said first ranks accepts allows line plan reply is says =
    subst (λ task. Answered first ranks accepts allows (fields line) plan task plan reply) (sym (blank_task line (sym is))) (refl, says)
