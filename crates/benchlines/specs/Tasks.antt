-- What a line after the first asks for, by its first word and its number of fields. Assumes nothing.
use Rattle.std.specs.Prelude.{ℕ, ◌-◌, ◌/◌, ◌%◌, ◌≤◌, Bool, cond, not, ◌&&◌, List, [], length, Ok, Err, codes, Result, ◌==◌, nat_le, nat_lt, slice_index_or}
use Rattle.std.specs.Str.{bytes_eq}
use Rattle.model.specs.declared.fault.LineFault.{LineFault}
use Rattle.lines.specs.Fields.{fields, says}
use Rattle.lines.specs.Numbers.{then_do}
use Rattle.benchlines.specs.declared.task.Task.{Task}

-- a line has at most 12,000 bytes, its newline not counted
abbrev pub too_long : List ℕ → Bool
too_long line = nat_lt 12000 (length line)

-- a line that asks for nothing
abbrev pub blank : List ℕ → Bool
blank line = not (too_long line) && not (nat_lt 0 (length (fields line)))

-- the task, if there are just so many fields
abbrev pub counted : ℕ → ℕ → Task → Result Task LineFault
counted n wanted task = cond (n == wanted) (Ok task) (Err LineFault.Fields)

-- how many rows of three fields stand behind the first so many of n fields: none is cut short, and there are at most 40
abbrev pub rows_after : ℕ → ℕ → Result ℕ LineFault
rows_after first n =
    cond (nat_le ((n - first) / 3) 40 && (nat_le first n && (n - first) % 3 == 0)) (Ok ((n - first) / 3)) (Err LineFault.Fields)

-- the task of a word that rows follow, with n fields in all
abbrev pub rows_task : List ℕ → ℕ → Result Task LineFault
rows_task word n =
    cond (bytes_eq word (codes "judge")) (then_do (rows_after 1 n) (λ rows. Ok (Task.Judge rows)))
    (cond (bytes_eq word (codes "allow")) (then_do (rows_after 3 n) (λ rows. Ok (Task.Allow rows))) (Err LineFault.Word))

-- the task of fields, the first of them its word; an unknown word is told before a wrong count
abbrev pub task_among : List (List ℕ) → Result Task LineFault
task_among fs =
    cond (says fs 0 (codes "admit")) (counted (length fs) 5 Task.Admit)
    (cond (says fs 0 (codes "leave")) (counted (length fs) 2 Task.Leave)
    (cond (says fs 0 (codes "load")) (counted (length fs) 2 Task.Load)
    (cond (says fs 0 (codes "save")) (counted (length fs) 1 Task.Save)
    (cond (says fs 0 (codes "look")) (counted (length fs) 3 Task.Look)
    (rows_task (slice_index_or fs 0 []) (length fs))))))

-- the task of a line
abbrev pub task_of : List ℕ → Result Task LineFault
task_of line =
    cond (too_long line) (Err LineFault.Long)
    (cond (nat_lt 0 (length (fields line))) (task_among (fields line)) (Ok Task.Blank))

-- a line has at most 40 rows
abbrev pub FewRows : Task → Type 0
FewRows Task.Blank = Unit {0}
FewRows Task.Admit = Unit {0}
FewRows Task.Leave = Unit {0}
FewRows Task.Load = Unit {0}
FewRows Task.Save = Unit {0}
FewRows Task.Look = Unit {0}
FewRows (Task.Judge rows) = rows ≤ 40
FewRows (Task.Allow rows) = rows ≤ 40
