-- What a line after the first asks for, and why one is refused. Assumes nothing.
use Rattle.std.specs.Prelude.{ℕ, Bool, cond, not, ◌&&◌, List, [], ◌∷◌, length, Ok, Err, codes, Result, ◌==◌, nat_lt, slice_index_or}
use Rattle.model.specs.declared.fault.LineFault.{LineFault}
use Rattle.lines.specs.declared.command.Command.{Command}
use Rattle.model.specs.declared.wanted.Wanted.{Wanted}
use Rattle.lines.specs.declared.command.Request.{Request}
use Rattle.lines.specs.Fields.{fields, says}
use Rattle.lines.specs.Numbers.{number_of, then_do}

-- a line has at most 80 bytes, its newline not counted
abbrev pub too_long : List ℕ → Bool
too_long line = nat_lt 80 (length line)

-- a line of at most so many bytes that asks for nothing
abbrev pub blank_within : ℕ → List ℕ → Bool
blank_within longest line = not (nat_lt longest (length line)) && not (nat_lt 0 (length (fields line)))

-- a line that asks for nothing
abbrev pub blank : List ℕ → Bool
blank line = blank_within 80 line

-- the fields, if there are just n of them
abbrev pub counted : ℕ → List (List ℕ) → Result (List (List ℕ)) LineFault
counted n fs = cond (length fs == n) (Ok fs) (Err LineFault.Fields)

-- the fields of a command: none, `admit` and four more, or `leave` and one more; an unknown word is told before a wrong count
abbrev pub command_of : List (List ℕ) → Result (List (List ℕ)) LineFault
command_of fs =
    cond (nat_lt 0 (length fs))
    (cond (says fs 0 (codes "admit")) (counted 5 fs)
    (cond (says fs 0 (codes "leave")) (counted 2 fs) (Err LineFault.Word)))
    (Ok [])

-- the fields of the command that a line is
abbrev pub command : List ℕ → Result (List (List ℕ)) LineFault
command line = cond (too_long line) (Err LineFault.Long) (command_of (fields line))

-- the fields that a command holds
abbrev pub worded : Command → List (List ℕ)
worded Command.Blank = []
worded (Command.Admit f) = codes "admit" ∷ (f.key.now ∷ (f.budget.now ∷ (f.deadline.now ∷ (f.period.now ∷ []))))
worded (Command.Leave k) = codes "leave" ∷ (k.now ∷ [])

abbrev pub told : Result Command LineFault → Result (List (List ℕ)) LineFault
told (Ok c) = Ok (worded c)
told (Err e) = Err e

-- the numbers of an admission
abbrev pub admit_of : List ℕ → List ℕ → List ℕ → List ℕ → Result Wanted LineFault
admit_of k c d t =
    then_do (number_of k) (λ key. then_do (number_of c) (λ budget. then_do (number_of d) (λ deadline. then_do (number_of t) (λ period.
    Ok (record { key = key; budget = budget; deadline = deadline; period = period })))))

-- the numbers of a command's fields
abbrev pub request_of : List (List ℕ) → Result Request LineFault
request_of fs =
    cond (nat_lt 0 (length fs))
    (cond (says fs 0 (codes "admit"))
    (then_do (admit_of (slice_index_or fs 1 []) (slice_index_or fs 2 []) (slice_index_or fs 3 []) (slice_index_or fs 4 [])) (λ a. Ok (Request.Admit a)))
    (then_do (number_of (slice_index_or fs 1 [])) (λ key. Ok (Request.Leave key))))
    (Ok Request.Blank)

-- what a line asks for
abbrev pub asked : List ℕ → Result Request LineFault
asked line = then_do (command line) request_of
