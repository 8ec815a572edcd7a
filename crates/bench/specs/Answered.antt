-- What a line after the first is answered with, and the plan afterwards. Assumes nothing.
use Rattle.std.specs.Prelude.{◌≡◌, ℕ, ◌+◌, ◌*◌, Bool, true, false, List, [], ℤ, IfOk, Ok, Err, string_bytes, codes, Result, String, slice_index_or}
use Rattle.std.specs.declared.alloc.AllocError.{AllocError}
use Rattle.model.specs.declared.timing.Timing.{Timing}
use Rattle.model.specs.declared.row.Row.{Row}
use Rattle.model.specs.declared.fault.LineFault.{LineFault}
use Rattle.model.specs.declared.fault.RequestFault.{RequestFault}
use Rattle.model.specs.declared.fault.NamingFault.{NamingFault}
use Rattle.model.specs.Refusal.{request_number, naming_number, line_number}
use Rattle.model.specs.declared.wanted.Wanted.{Wanted}
use Rattle.lines.specs.Numbers.{number_of}
use Rattle.lines.specs.Commands.{admit_of}
use Rattle.board.specs.declared.admission.Placed.{Placed}
use Rattle.board.specs.Admit.{admitted}
use Rattle.board.specs.Withdraw.{withdrawal}
use Rattle.board.specs.Look.{looked}
use Rattle.store.specs.declared.fault.BufferFault.{BufferFault}
use Rattle.store.specs.Refusal.{buffer_number}
use Rattle.store.specs.Image.{image}
use Rattle.store.specs.Load.{Loaded}
use Rattle.benchlines.specs.declared.task.Task.{Task}
use Rattle.benchlines.specs.Hex.{is_image, bytes_of}
use Rattle.benchlines.specs.Numbers.{number_at, checked}
use Rattle.bench.specs.Replies.{refused_at, image_line, shown_line, allowance_line, verdict_line}
use Rattle.bench.specs.Rows.{rows_text, left_text}
use Rattle.bench.specs.Timings.{timings_at}
use Rattle.bench.specs.After.{after_admit, after_leave}

-- a refusal of the line itself, else what the line is answered with
abbrev pub unless_refused : Result (Unit {0}) LineFault → List ℕ → List ℕ
unless_refused (Ok u) text = text
unless_refused (Err fault) text = refused_at (line_number fault) 0

-- the rows made, or the refusal
abbrev pub admitted_text : Result (List Placed) RequestFault → List ℕ
admitted_text (Ok rows) = rows_text rows
admitted_text (Err fault) = refused_at (request_number fault) 0

abbrev pub admit_text :
    {R : Type 0} → (R → R → Bool) → (ℕ → ℤ → ℕ → R) → (List Timing → Bool) → (List Timing → ℕ → ℕ → ℕ) →
    List (List Row) → Result Wanted LineFault → List ℕ
admit_text first ranks accepts allows plan (Ok a) =
    admitted_text (admitted first ranks accepts allows plan a.key a.budget a.deadline a.period)
admit_text first ranks accepts allows plan (Err fault) = refused_at (line_number fault) 0

-- the key that left and what was gathered, as the plan then has it, or the refusal
abbrev pub withdrawn_text : ℕ → List (List Row) → Result (List ℕ) NamingFault → List ℕ
withdrawn_text key plan (Ok keys) = left_text key keys plan
withdrawn_text key plan (Err fault) = refused_at (naming_number fault) 0

abbrev pub leave_text : (List Timing → Bool) → List (List Row) → Result ℕ LineFault → List ℕ
leave_text accepts plan (Ok key) = withdrawn_text key (withdrawal accepts key plan).1 (withdrawal accepts key plan).0
leave_text accepts plan (Err fault) = refused_at (line_number fault) 0

-- the row looked at, or the refusal
abbrev pub looked_text : Result Row NamingFault → List ℕ
looked_text (Ok row) = shown_line row
looked_text (Err fault) = refused_at (naming_number fault) 0

abbrev pub look_text : List (List Row) → List (List ℕ) → List ℕ
look_text plan fs = unless_refused (checked fs 1 2) (looked_text (looked plan (number_at fs 1) (number_at fs 2)))

-- whether the judge accepts the rows, or the first limit that one breaks
abbrev pub judged_text : (List Timing → Bool) → Result (List Timing) RequestFault → List ℕ
judged_text accepts (Ok rows) = verdict_line (accepts rows)
judged_text accepts (Err fault) = refused_at (request_number fault) 0

abbrev pub judge_text : (List Timing → Bool) → List (List ℕ) → ℕ → List ℕ
judge_text accepts fs rows = unless_refused (checked fs 1 (3 * rows)) (judged_text accepts (timings_at fs 1 rows))

-- the longest tail that is allowed beside the rows, or the first limit that one breaks
abbrev pub allowed_text : (List Timing → ℕ → ℕ → ℕ) → ℕ → ℕ → Result (List Timing) RequestFault → List ℕ
allowed_text allows period cap (Ok rows) = allowance_line (allows rows period cap)
allowed_text allows period cap (Err fault) = refused_at (request_number fault) 0

abbrev pub allow_text : (List Timing → ℕ → ℕ → ℕ) → List (List ℕ) → ℕ → List ℕ
allow_text allows fs rows =
    unless_refused (checked fs 1 (2 + 3 * rows)) (allowed_text allows (number_at fs 1) (number_at fs 2) (timings_at fs 3 rows))

-- the image of the plan as it then is, or the refusal and its place
abbrev pub load_text : List (List Row) → Result (Unit {0}) BufferFault → List ℕ
load_text plan (Ok u) = image_line (codes "loaded") (image plan)
load_text plan (Err fault) = refused_at (buffer_number fault.rule) fault.place

-- the reply is this text; where memory was wanting there is none
abbrev pub Says : {Z : Type 0} → Result (String Z) AllocError → List ℕ → Type 0
Says reply text = IfOk reply (λ s. string_bytes s ≡ text)

-- digits load the bytes that they write; a text that is none is refused, and changes nothing
abbrev pub LoadsDigits : (List ℕ → Type 0) → Bool → (List Timing → Bool) → List ℕ → List (List Row) → List (List Row) → Type 0
LoadsDigits says true accepts bytes before after =
    (answer : Result (Unit {0}) BufferFault) × Loaded accepts bytes before answer after × says (load_text after answer)
LoadsDigits says false accepts bytes before after = (after ≡ before) × says (refused_at (line_number LineFault.Number) 0)

abbrev pub LoadAnswered : (List ℕ → Type 0) → (List Timing → Bool) → List ℕ → List (List Row) → List (List Row) → Type 0
LoadAnswered says accepts digits = LoadsDigits says (is_image digits) accepts (bytes_of digits)

-- the plan after the task of a line with these fields, and what is said; a refusal changes nothing
abbrev pub AnsweredAs :
    {R : Type 0} → (List ℕ → Type 0) → (R → R → Bool) → (ℕ → ℤ → ℕ → R) → (List Timing → Bool) → (List Timing → ℕ → ℕ → ℕ) →
    List (List ℕ) → List (List Row) → Result Task LineFault → List (List Row) → Type 0
AnsweredAs says first ranks accepts allows fs before (Err fault) after = (after ≡ before) × says (refused_at (line_number fault) 0)
AnsweredAs says first ranks accepts allows fs before (Ok Task.Blank) after = (after ≡ before) × says []
AnsweredAs says first ranks accepts allows fs before (Ok Task.Admit) after =
    let request = admit_of (slice_index_or fs 1 []) (slice_index_or fs 2 []) (slice_index_or fs 3 []) (slice_index_or fs 4 []) in
    (after ≡ after_admit first ranks accepts allows before request) × says (admit_text first ranks accepts allows before request)
AnsweredAs says first ranks accepts allows fs before (Ok Task.Leave) after =
    (after ≡ after_leave accepts before (number_of (slice_index_or fs 1 []))) × says (leave_text accepts before (number_of (slice_index_or fs 1 [])))
AnsweredAs says first ranks accepts allows fs before (Ok Task.Load) after = LoadAnswered says accepts (slice_index_or fs 1 []) before after
AnsweredAs says first ranks accepts allows fs before (Ok Task.Save) after =
    (after ≡ before) × says (image_line (codes "saved") (image before))
AnsweredAs says first ranks accepts allows fs before (Ok Task.Look) after = (after ≡ before) × says (look_text before fs)
AnsweredAs says first ranks accepts allows fs before (Ok (Task.Judge rows)) after = (after ≡ before) × says (judge_text accepts fs rows)
AnsweredAs says first ranks accepts allows fs before (Ok (Task.Allow rows)) after = (after ≡ before) × says (allow_text allows fs rows)

-- the same, said by the reply, if there was memory for it
abbrev pub Answered :
    {R Z : Type 0} → (R → R → Bool) → (ℕ → ℤ → ℕ → R) → (List Timing → Bool) → (List Timing → ℕ → ℕ → ℕ) →
    List (List ℕ) → List (List Row) → Result Task LineFault → List (List Row) → Result (String Z) AllocError → Type 0
Answered first ranks accepts allows fs before task after reply =
    AnsweredAs (Says reply) first ranks accepts allows fs before task after
