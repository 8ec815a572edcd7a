-- An image that was read. Assumes nothing.
use Rattle.std.specs.Prelude.{◌≡◌, ℕ, List, Some, None, Ok, Err, Result}
use Rattle.store.specs.declared.fault.BufferFault.{BufferFault}
use Rattle.store.specs.declared.image.Image.{Image}
use Rattle.store.specs.Header.{header_fault, record_count}

-- the image of these bytes, or the first rule that its header breaks on a board of m processors
abbrev pub Headed : ℕ → List ℕ → Result Image BufferFault → Type 0
Headed m bytes (Ok image) =
    (header_fault m bytes ≡ None) × (image.bytes.now ≡ bytes) × (image.processors ≡ m) × (image.records ≡ record_count bytes)
Headed m bytes (Err f) = header_fault m bytes ≡ Some f
