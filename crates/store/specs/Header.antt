-- The header of an image. Assumes nothing.
use Rattle.std.specs.Prelude.{ℕ, ◌+◌, ◌*◌, cond, not, List, length, Some, None, Option, ◌==◌, nat_lt}
use Rattle.store.specs.declared.fault.BufferFault.{BufferFault}
use Rattle.store.specs.declared.fault.BufferRule.{BufferRule}
use Rattle.store.specs.Fault.{fault}
use Rattle.store.specs.Numbers.{byte_at, two_at}

-- how many records an image has
abbrev pub record_count : List ℕ → ℕ
record_count bytes = two_at bytes 2

-- the length of an image of m processors and r records
abbrev pub image_length : ℕ → ℕ → ℕ
image_length m r = 4 + 2 * m + 18 * r

-- the first rule that the header breaks on a board of m processors
abbrev pub header_fault : ℕ → List ℕ → Option BufferFault
header_fault m bytes =
    cond (nat_lt (length bytes) 4) (Some (fault BufferRule.Header 0))
    (cond (not (byte_at bytes 0 == 1)) (Some (fault BufferRule.Form 0))
    (cond (not (byte_at bytes 1 == m)) (Some (fault BufferRule.Processors 0))
    (cond (nat_lt 256 (record_count bytes)) (Some (fault BufferRule.Length 0))
    (cond (not (length bytes == image_length m (record_count bytes))) (Some (fault BufferRule.Length 0)) None))))
