-- What a writer writes. Assumes nothing.
use Rattle.std.specs.Prelude.{◌≡◌, ℕ, ◌+◌, List, length}
use Rattle.store.specs.declared.writer.Writer.{Writer}
use Rattle.store.specs.Buffer.{overwritten}

-- in the same buffer these bytes stand where the writer was, and it is beyond them
pub record Wrote (old new : Writer) (bytes : List ℕ) : Type 0 where
  pub same : new.buffer.ghost_name ≡ old.buffer.ghost_name
  pub buffer : new.buffer.now ≡ overwritten old.buffer.now old.at bytes
  pub at : new.at ≡ old.at + length bytes
