-- The bytes of a reply. Assumes nothing.
use Rattle.std.specs.Prelude.{◌≡◌, ℕ, ◌+◌, cond, List, [], ◌∷◌, ◌++◌, length, take, drop, Ok, Err, codes, decimal, Result, nat_lt}
use Rattle.model.specs.declared.fault.LineFault.{LineFault}
use Rattle.model.specs.declared.row.Row.{Row}
use Rattle.model.specs.Row.{kind_word}
use Rattle.lines.specs.declared.reply.Reply.{Reply}

-- a buffer of fewer than 256 bytes is refused before anything is written
abbrev pub room : ℕ → Result (Unit {0}) LineFault
room n = cond (nat_lt n 256) (Err LineFault.Reply) (Ok tt)

-- a text written over a buffer from a place on: the bytes before it and after it stay
abbrev pub put : List ℕ → ℕ → List ℕ → List ℕ
put out at text = take at out ++ (text ++ drop (at + length text) out)

-- the text stands in the buffer from `at` on, and `end` is the place after it
pub record Wrote (out : List ℕ) (at : ℕ) (text : List ℕ) (after : List ℕ) (end : ℕ) : Type 0 where
  pub bytes : after ≡ put out at text
  pub place : end ≡ at + length text

-- the bytes of the lines that were made
abbrev pub text_of : {n : ℕ} → Reply n → List ℕ
text_of r = r.text.bytes

-- a reply line: its fields with one space between them, and byte 10 at the end
abbrev pub line_of : List (List ℕ) → List ℕ
line_of [] = 10 ∷ []
line_of (f ∷ []) = f ++ (10 ∷ [])
line_of (f ∷ (g ∷ fs)) = f ++ (32 ∷ line_of (g ∷ fs))

-- a row that was made, on a processor: key, kind, processor, budget, deadline
abbrev pub row_line : ℕ → Row → List ℕ
row_line p r =
    line_of (decimal r.key ∷ (kind_word r.kind ∷ (decimal p ∷ (decimal r.timing.budget ∷ (decimal r.timing.deadline ∷ [])))))

-- a reservation that left
abbrev pub gone_line : ℕ → List ℕ
gone_line key = line_of (decimal key ∷ (codes "gone" ∷ []))

-- a board that was set up
abbrev pub board_line : ℕ → List ℕ
board_line processors = line_of (codes "board" ∷ (decimal processors ∷ []))

-- a line that was refused
abbrev pub refused_line : ℕ → List ℕ
refused_line number = line_of (codes "refused" ∷ (decimal number ∷ []))
