-- What a line after the first is answered with, and the plan afterwards. Assumes nothing.
use Rattle.std.specs.Prelude.{◌≡◌, ℕ, ◌<◌, ◌≤◌, Bool, cond, List, [], ◌++◌, length, ℤ, Ok, Err, Result, nat_lt}
use Rattle.model.specs.declared.timing.Timing.{Timing}
use Rattle.model.specs.declared.row.Row.{Row}
use Rattle.model.specs.declared.fault.LineFault.{LineFault}
use Rattle.model.specs.declared.fault.RequestFault.{RequestFault}
use Rattle.model.specs.declared.fault.NamingFault.{NamingFault}
use Rattle.model.specs.Refusal.{request_number, naming_number, line_number}
use Rattle.lines.specs.declared.command.Request.{Request}
use Rattle.lines.specs.Replies.{gone_line, refused_line}
use Rattle.board.specs.declared.admission.Placed.{Placed}
use Rattle.board.specs.Admit.{admitted, after}
use Rattle.board.specs.Withdraw.{withdrawal}
use Rattle.lines.specs.Replies.{Wrote}
use Rattle.session.specs.Rows.{rows_text, gathered_text}

-- the rows made, or the refusal
abbrev pub admit_text : Result (List Placed) RequestFault → List ℕ
admit_text (Ok rows) = rows_text rows
admit_text (Err fault) = refused_line (request_number fault)

-- the key that left and what was gathered, as the plan then has it, or the refusal
abbrev pub leave_text : ℕ → List (List Row) → Result (List ℕ) NamingFault → List ℕ
leave_text key plan (Ok keys) = gone_line key ++ gathered_text 1 keys plan
leave_text key plan (Err fault) = refused_line (naming_number fault)

-- the reply to what a line asks: nothing to a blank line, the board's answer, or `refused` and a number
abbrev pub reply_text :
    {R : Type 0} → (R → R → Bool) → (ℕ → ℤ → ℕ → R) → (List Timing → Bool) → (List Timing → ℕ → ℕ → ℕ) →
    List (List Row) → Result Request LineFault → List ℕ
reply_text first ranks accepts allows plan (Err fault) = refused_line (line_number fault)
reply_text first ranks accepts allows plan (Ok Request.Blank) = []
reply_text first ranks accepts allows plan (Ok (Request.Admit a)) =
    admit_text (admitted first ranks accepts allows plan a.key a.budget a.deadline a.period)
reply_text first ranks accepts allows plan (Ok (Request.Leave key)) =
    leave_text key (withdrawal accepts key plan).1 (withdrawal accepts key plan).0

-- the plan after a line; a refused line changes nothing
abbrev pub plan_after :
    {R : Type 0} → (R → R → Bool) → (ℕ → ℤ → ℕ → R) → (List Timing → Bool) → (List Timing → ℕ → ℕ → ℕ) →
    List (List Row) → Result Request LineFault → List (List Row)
plan_after first ranks accepts allows plan (Err fault) = plan
plan_after first ranks accepts allows plan (Ok Request.Blank) = plan
plan_after first ranks accepts allows plan (Ok (Request.Admit a)) =
    after plan (admitted first ranks accepts allows plan a.key a.budget a.deadline a.period)
plan_after first ranks accepts allows plan (Ok (Request.Leave key)) = (withdrawal accepts key plan).1

-- a text written from the buffer's start, with its length; a buffer of fewer than 256 bytes is refused and stays as it was
abbrev pub Replied : List ℕ → List ℕ → List ℕ → Result ℕ LineFault → Type 0
Replied out text then (Ok end) = (256 ≤ length out) × Wrote out 0 text then end × (end ≤ 256)
Replied out text then (Err fault) = (length out < 256) × (fault ≡ LineFault.Reply) × (then ≡ out)

-- the plan after a call with a buffer of so many bytes
abbrev pub unless_small : ℕ → List (List Row) → List (List Row) → List (List Row)
unless_small room before later = cond (nat_lt room 256) before later
