-- The entries of an image from its header, chains and records. Assumes nothing.
use Rattle.std.proofs.Common.{◌≡◌, ℕ, ◌+◌, ◌<◌, List, map, get_or, None, Ok, Err, sym, ap, ◌∙◌}
use Rattle.model.specs.declared.row.Row.{Row}
use Rattle.store.specs.declared.fault.BufferFault.{BufferFault}
use Rattle.store.specs.declared.image.Image.{Image}
use Rattle.store.specs.Header.{header_fault, record_count}
use Rattle.store.specs.Read.{Headed}
use Rattle.store.specs.Record.{entry, entry_at, next_at}
use Rattle.store.specs.Records.{record_fault, picked}
use Rattle.store.specs.Chains.{chains, head_at}
use Rattle.store.specs.Entries.{unless, along, entries}
use Rattle.store.proofs.Reaches.{chains_numbered, picked_all, blank}

pub entries_along :
    (m : ℕ) (bytes : List ℕ) → header_fault m bytes ≡ None →
    entries m bytes ≡ along (entry_at m bytes) (record_count bytes) (chains (head_at bytes) (next_at m bytes) m (record_count bytes))
entries_along m bytes none =
    ap (λ h. unless h (along (entry_at m bytes) (record_count bytes) (chains (head_at bytes) (next_at m bytes) m (record_count bytes)))) none

pub entries_refused :
    (m : ℕ) (bytes : List ℕ) → header_fault m bytes ≡ None → (m' r : ℕ) (f : BufferFault) → m' ≡ m → r ≡ record_count bytes →
    chains (head_at bytes) (next_at m' bytes) m' r ≡ Err f → entries m bytes ≡ Err f
entries_refused m bytes none m' r f is_m is-r refused =
    let here = rw (is_m, is-r) at refused in entries_along m bytes none ∙ ap (along (entry_at m bytes) (record_count bytes)) here

-- the same of an image that was read
module _ (m : ℕ) (bytes : List ℕ) (i : Image) (is : Headed m bytes (Ok i)) where
  entries_of :
      entries m bytes
      ≡ along (entry_at i.processors i.bytes.now) i.records (chains (head_at i.bytes.now) (next_at i.processors i.bytes.now) i.processors i.records)
  entries_of = rw (is.1, is.2, is.3) (entries_along m bytes is.0)

  pub entries_read :
      (l : List (List ℕ)) (rows : List Row) (result : List (List Row)) →
      chains (head_at i.bytes.now) (next_at i.processors i.bytes.now) i.processors i.records ≡ Ok l → record_fault (entry_at i.processors i.bytes.now) i.records 1 ≡ None →
      ((k : ℕ) (d : Row) → k < i.records → entry (get_or rows k d) ≡ entry_at i.processors i.bytes.now (k + 1)) →
      ((d : Row) → result ≡ map (picked rows d) l) → entries m bytes ≡ Ok (map (map entry) result)
  entries_read l rows result chained good read picks =
      let numbered = chains_numbered (head_at i.bytes.now) (next_at i.processors i.bytes.now) i.processors i.records l chained in
      entries_of
      ∙ (ap (along (entry_at i.processors i.bytes.now) i.records) chained
      ∙ (ap (λ h. unless h (Ok (map (map (entry_at i.processors i.bytes.now)) l))) good
      ∙ ap Ok (sym (ap (map (map entry)) (picks blank) ∙ picked_all (entry_at i.processors i.bytes.now) rows i.records blank read l numbered))))
