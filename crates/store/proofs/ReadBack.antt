-- What was written is read back: numbers and records. Assumes nothing.
use Rattle.std.proofs.Common.{◌≡◌, ℕ, ◌+◌, ◌*◌, ◌/◌, ◌%◌, List, ◌++◌, get_or, drop, sym, refl, ap, ◌∙◌, arith}
use native.Mathlib.Nat.{mod-add-div, div-div-eq-div-mul}
use Rattle.std.proofs.lemmas.List.{get_or-drop}
use Rattle.model.specs.declared.row.Row.{Row}
use Rattle.store.specs.declared.entry.Entry.{Entry}
use Rattle.store.specs.Numbers.{byte_at, two_at, four_at, two_bytes}
use Rattle.store.specs.Image.{record_bytes}
use Rattle.store.specs.Record.{entry, entry_from}

-- a byte of a part that stands somewhere
byte_from :
    (bytes part : List ℕ) (at k j : ℕ) → drop at bytes ≡ part → j ≡ at + k → byte_at bytes j ≡ get_or part k 0
byte_from bytes part at k j e is = ap (λ n. get_or bytes n 0) is ∙ (sym (get_or-drop at bytes k 0) ∙ ap (λ l. get_or l k 0) e)

pub two_back :
    (bytes rest : List ℕ) (at n : ℕ) → drop at bytes ≡ two_bytes n ++ rest → two_at bytes at ≡ n
two_back bytes rest at n e =
    let low : byte_at bytes at ≡ n % 256 = byte_from bytes (two_bytes n ++ rest) at 0 at e (omega arith) in
    let high : byte_at bytes (at + 1) ≡ n / 256 = byte_from bytes (two_bytes n ++ rest) at 1 (at + 1) e refl in
    omega (arith, mod-add-div n 256)

four_whole : (n : ℕ) → n % 256 + 256 * (n / 256 % 256) + 65536 * (n / 65536 % 256) + 16777216 * (n / 16777216) ≡ n
four_whole n =
    omega (
      arith,
      mod-add-div n 256,
      mod-add-div (n / 256) 256,
      div-div-eq-div-mul n 256 256,
      mod-add-div (n / 65536) 256,
      div-div-eq-div-mul n 65536 256,
    )

entry_same :
    (e f : Entry) → e.key ≡ f.key → e.kind ≡ f.kind → e.part ≡ f.part → e.budget ≡ f.budget → e.deadline ≡ f.deadline →
    e.period ≡ f.period → e ≡ f
entry_same e f k n p c d t = λ i. record { key = k i; kind = n i; part = p i; budget = c i; deadline = d i; period = t i }

-- four bytes of a part
four_from :
    (bytes part : List ℕ) (at k n : ℕ) → drop at bytes ≡ part → get_or part k 0 ≡ n % 256 → get_or part (k + 1) 0 ≡ n / 256 % 256 →
    get_or part (k + 2) 0 ≡ n / 65536 % 256 → get_or part (k + 3) 0 ≡ n / 16777216 → four_at bytes (at + k) ≡ n
four_from bytes part at k n e p q r s =
    let a : byte_at bytes (at + k) ≡ n % 256 = byte_from bytes part at k (at + k) e refl ∙ p in
    let b : byte_at bytes (at + k + 1) ≡ n / 256 % 256 = byte_from bytes part at (k + 1) (at + k + 1) e (omega arith) ∙ q in
    let c : byte_at bytes (at + k + 2) ≡ n / 65536 % 256 = byte_from bytes part at (k + 2) (at + k + 2) e (omega arith) ∙ r in
    let d : byte_at bytes (at + k + 3) ≡ n / 16777216 = byte_from bytes part at (k + 3) (at + k + 3) e (omega arith) ∙ s in
    omega (arith, four_whole n)

pub entry_back :
    (bytes rest : List ℕ) (at next : ℕ) (row : Row) → drop at bytes ≡ record_bytes next row ++ rest → entry_from bytes at ≡ entry row
entry_back bytes rest at next row e =
    let part = record_bytes next row ++ rest in
    let low : byte_at bytes (at + 2) ≡ row.key % 256 = byte_from bytes part at 2 (at + 2) e refl in
    let high : byte_at bytes (at + 2 + 1) ≡ row.key / 256 = byte_from bytes part at 3 (at + 2 + 1) e (omega arith) in
    entry_same (entry_from bytes at) (entry row)
    (omega (arith, mod-add-div row.key 256))
    (byte_from bytes part at 4 (at + 4) e refl)
    (byte_from bytes part at 5 (at + 5) e refl)
    (four_from bytes part at 6 row.timing.budget e refl refl refl refl)
    (four_from bytes part at 10 row.timing.deadline e refl refl refl refl)
    (four_from bytes part at 14 row.timing.period e refl refl refl refl)
