-- The number of each refusal of a buffer. Assumes nothing.
use Rattle.std.specs.Prelude.{ℕ}
use Rattle.store.specs.declared.fault.BufferRule.{BufferRule}

-- who supplies a buffer
abbrev pub buffer_number : BufferRule → ℕ
buffer_number BufferRule.Room = 30
buffer_number BufferRule.Header = 31
buffer_number BufferRule.Form = 32
buffer_number BufferRule.Processors = 33
buffer_number BufferRule.Length = 34
buffer_number BufferRule.Chains = 35
buffer_number BufferRule.Record = 36
buffer_number BufferRule.Key = 37
buffer_number BufferRule.Keys = 38
buffer_number BufferRule.Judge = 39
