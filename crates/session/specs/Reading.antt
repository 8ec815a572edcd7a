-- The lines of a session. Assumes nothing.
use Rattle.std.specs.Prelude.{◌≡◌, ℕ, Bool, true, false, ◌&&◌, List, [], Ok, Err, codes, Result}
use Rattle.std.specs.Str.{bytes_eq}
use Rattle.session.specs.declared.reader.Next.{Next}
use Rattle.session.specs.declared.reader.Found.{Found}
use Rattle.lines.specs.declared.line.Line.{Line}
use Rattle.lines.specs.Held.{held, EnoughKept}

-- the line `----` ends a session where sessions are marked
abbrev pub is_mark : Bool → List ℕ → Bool
is_mark marked line = marked && bytes_eq line (codes "----")

-- a line that is no mark, or a mark where sessions are marked, or the end of the input
abbrev pub NextLine : {E : Type 0} → Bool → List ℕ → Result Next E → Type 0
NextLine marked left (Ok (Next.Line line)) = is_mark marked (held line) ≡ false
NextLine marked left (Ok (Next.Mark line)) = is_mark marked (held line) ≡ true
NextLine marked left (Ok Next.End) = left ≡ []
NextLine marked left (Err e) = Unit {0}

-- the same of a line that is lent
abbrev pub FoundLine : {E : Type 0} → Bool → List ℕ → List ℕ → Result Found E → Type 0
FoundLine marked left line (Ok Found.Line) = is_mark marked line ≡ false
FoundLine marked left line (Ok Found.Mark) = is_mark marked line ≡ true
FoundLine marked left line (Ok Found.End) = left ≡ []
FoundLine marked left line (Err e) = Unit {0}

-- as many bytes of a line are kept as it is answered from as from all of them
unfoldable pub IsEnough : {n : ℕ} → Line n → Type 0
IsEnough {n} line = EnoughKept n

-- so much is kept of a line that what is kept is answered as the whole line is
abbrev pub KeptEnough : Next → Type 0
KeptEnough (Next.Line line) = IsEnough line
KeptEnough (Next.Mark line) = IsEnough line
KeptEnough Next.End = Unit {0}
