-- What is held of an input: the bytes that are not used yet. Assumes nothing.
use Rattle.std.specs.Prelude.{◌≡◌, ℕ, Bool, not, List, length, take, drop, Ok, Err, Result, ◌==◌}
use Rattle.lines.specs.declared.chunk.Chunk.{Chunk}
use Rattle.lines.specs.declared.reader.Reader.{Reader}

-- the bytes of a chunk that are not used yet
abbrev pub unread : Chunk → List ℕ
unread c = drop c.at (take c.end c.bytes)

-- the bytes that a reader has and did not give out yet
abbrev pub left : {I : Type 0} → Reader I → List ℕ
left r = unread r.chunk

-- whether there is another byte
abbrev pub Told : {E : Type 0} → List ℕ → Result Bool E → Type 0
Told left (Ok more) = more ≡ not (length left == 0)
Told left (Err e) = Unit {0}
