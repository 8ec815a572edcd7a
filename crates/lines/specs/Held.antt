-- What is kept of a line while it is read. Assumes nothing.
use Rattle.std.specs.Prelude.{◌≡◌, ℕ, List, take}
use Rattle.lines.specs.declared.line.Line.{Line}
use Rattle.lines.specs.Commands.{asked, blank}
use Rattle.lines.specs.Setups.{setup_of}

abbrev pub held : {n : ℕ} → Line n → List ℕ
held l = take l.len l.bytes

-- the first k bytes of a line are answered as the whole line is
abbrev pub EnoughKept : ℕ → Type 0
EnoughKept k = (l : List ℕ) → (blank (take k l) ≡ blank l) × (asked (take k l) ≡ asked l) × (setup_of (take k l) ≡ setup_of l)

-- the first 81 bytes are
abbrev pub CutIsEnough : Type 0
CutIsEnough = EnoughKept 81
