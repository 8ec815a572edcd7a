-- What an image says of a plan's rows, by its format alone. Assumes nothing.
use Rattle.std.specs.Prelude.{ℕ, List, map, Some, None, Ok, Err, Option, Result}
use Rattle.store.specs.declared.entry.Entry.{Entry}
use Rattle.store.specs.declared.fault.BufferFault.{BufferFault}
use Rattle.store.specs.Header.{header_fault, record_count}
use Rattle.store.specs.Record.{entry_at, next_at}
use Rattle.store.specs.Chains.{chains, head_at}
use Rattle.store.specs.Records.{record_fault}

-- a refusal, or what follows where there is none
abbrev pub unless : {A : Type 0} → Option BufferFault → Result A BufferFault → Result A BufferFault
unless (Some f) r = Err f
unless None r = r

-- what the records say along the chains, if all of them are rows'
abbrev pub along : (ℕ → Entry) → ℕ → Result (List (List ℕ)) BufferFault → Result (List (List Entry)) BufferFault
along says r (Err f) = Err f
along says r (Ok numbers) = unless (record_fault says r 1) (Ok (map (map says) numbers))

-- the entries of each of m processors in its order, or the first rule of the format that fails: header, chains, records
abbrev pub entries : ℕ → List ℕ → Result (List (List Entry)) BufferFault
entries m bytes =
    unless (header_fault m bytes)
    (along (entry_at m bytes) (record_count bytes) (chains (head_at bytes) (next_at m bytes) m (record_count bytes)))
