-- What save answers, and what it leaves in the buffer. Assumes nothing.
use Rattle.std.specs.Prelude.{ℕ, cond, List, length, Ok, Err, Result, nat_lt}
use Rattle.model.specs.declared.row.Row.{Row}
use Rattle.store.specs.declared.fault.BufferFault.{BufferFault}
use Rattle.store.specs.declared.fault.BufferRule.{BufferRule}
use Rattle.store.specs.Fault.{fault}
use Rattle.store.specs.Image.{image}
use Rattle.store.specs.Buffer.{overwritten}

-- the length of the image, or the refusal of a buffer that is too short
abbrev pub saved : List (List Row) → List ℕ → Result ℕ BufferFault
saved plan buffer =
    cond (nat_lt (length buffer) (length (image plan))) (Err (fault BufferRule.Room 0)) (Ok (length (image plan)))

-- the image at the buffer's front and the bytes beyond as they were; a buffer that is too short stays as it was
abbrev pub buffer_after : List (List Row) → List ℕ → List ℕ
buffer_after plan buffer =
    cond (nat_lt (length buffer) (length (image plan))) buffer (overwritten buffer 0 (image plan))
