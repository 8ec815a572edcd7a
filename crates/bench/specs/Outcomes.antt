-- What a line is answered with, or why it is refused, and the text that says it. Assumes nothing.
use Rattle.std.specs.Prelude.{ℕ, List, [], Ok, Err, codes, Result}
use Rattle.model.specs.declared.row.Row.{Row}
use Rattle.model.specs.Refusal.{request_number, naming_number, line_number}
use Rattle.processor.specs.Few.{held}
use Rattle.board.specs.Admission.{made_rows}
use Rattle.store.specs.Refusal.{buffer_number}
use Rattle.store.specs.Image.{image}
use Rattle.bench.specs.declared.refusal.Refusal.{Refusal}
use Rattle.bench.specs.declared.telling.Answer.{Answer}
use Rattle.bench.specs.Replies.{refused_at, image_line, shown_line, allowance_line, verdict_line}
use Rattle.bench.specs.Rows.{rows_text, left_text}

abbrev pub refusal_number : Refusal → ℕ
refusal_number (Refusal.Line fault) = line_number fault
refusal_number (Refusal.Request fault) = request_number fault
refusal_number (Refusal.Name fault) = naming_number fault
refusal_number (Refusal.Stored fault) = buffer_number fault.rule

-- only an image has places
abbrev pub refusal_place : Refusal → ℕ
refusal_place (Refusal.Line fault) = 0
refusal_place (Refusal.Request fault) = 0
refusal_place (Refusal.Name fault) = 0
refusal_place (Refusal.Stored fault) = fault.place

-- the text of an answer, with the plan as it is after the line
abbrev pub answer_text : List (List Row) → Answer → List ℕ
answer_text plan Answer.Nothing = []
answer_text plan (Answer.Made admission) = rows_text (made_rows admission)
answer_text plan (Answer.Left key gathered) = left_text key (held gathered.keys) plan
answer_text plan Answer.Saved = image_line (codes "saved") (image plan)
answer_text plan Answer.Loaded = image_line (codes "loaded") (image plan)
answer_text plan (Answer.Row row) = shown_line row
answer_text plan (Answer.Verdict accepted) = verdict_line accepted
answer_text plan (Answer.Allowance number) = allowance_line number

-- the text of an answer or a refusal
abbrev pub outcome_text : List (List Row) → Result Answer Refusal → List ℕ
outcome_text plan (Ok answer) = answer_text plan answer
outcome_text plan (Err refusal) = refused_at (refusal_number refusal) (refusal_place refusal)
