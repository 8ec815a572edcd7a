-- Loading the bytes that digits write. Assumes nothing.
use Rattle.std.proofs.Common.{◌≡◌, ℕ, ◌-◌, ◌≤◌, Bool, cond, List, ◌++◌, length, take, Some, None, Ok, Err, Option, Result, sym, refl, subst, ap, ◌∙◌, arith}
use Rattle.std.specs.Option.{ok_or}
use Rattle.model.specs.declared.timing.Timing.{Timing}
use Rattle.model.specs.declared.row.Row.{Row}
use Rattle.model.specs.declared.fault.LineFault.{LineFault}
use Rattle.model.specs.Refusal.{line_number}
use Rattle.store.specs.declared.fault.BufferFault.{BufferFault}
use Rattle.store.specs.Load.{Loaded}
use Rattle.benchlines.specs.Hex.{bytes_of, fits, decoded}
use Rattle.bench.specs.Replies.{refused_at}
use Rattle.bench.specs.Answered.{load_text, LoadsDigits, LoadAnswered}
use Rattle.bench.proofs.Images.{no_image, some_image, decoded_front}

none_read : (read : Option ℕ) (fault : LineFault) → Err fault ≡ ok_or read LineFault.Number → (None ≡ read) × (fault ≡ LineFault.Number)
none_read None fault is = (refl, cc)
none_read (Some n) fault is = absurd (cc)

pub some_read : (read : Option ℕ) (n : ℕ) → Ok n ≡ ok_or read LineFault.Number → Some n ≡ read
some_read None n is = absurd (cc)
some_read (Some m) n is = cc

-- digits that write no bytes are refused
pub load_none : (told : List ℕ) (accepts : List Timing → Bool) (digits : List ℕ) (before : List (List Row)) (read : Option ℕ) (fault : LineFault) →
    length digits ≤ 12000 → read ≡ decoded digits 6000 → Err fault ≡ ok_or read LineFault.Number → told ≡ refused_at (line_number fault) 0
    → LoadAnswered (λ text. told ≡ text) accepts digits before before
load_none told accepts digits before read fault short is err e =
    let none = none_read read fault err in
    subst (λ image. LoadsDigits (λ text. told ≡ text) image accepts (bytes_of digits) before before) (sym (no_image digits 6000 (omega arith) (none.0 ∙ is)))
    (refl, e ∙ ap (λ f. refused_at (line_number f) 0) none.1)

-- those that do are loaded as the bytes that they write
pub load_some : (told : List ℕ) (accepts : List Timing → Bool) (digits : List ℕ) (before after : List (List Row))
    (answer : Result (Unit {0}) BufferFault) (read : Option ℕ) (n : ℕ) (rest buffer then : List ℕ) →
    read ≡ decoded digits 6000 → Ok n ≡ ok_or read LineFault.Number → then ≡ cond (fits digits 6000) (bytes_of digits ++ rest) buffer
    → Loaded accepts (take (n - 0) then) before answer after → told ≡ load_text after answer → LoadAnswered (λ text. told ≡ text) accepts digits before after
load_some told accepts digits before after answer read n rest buffer then is ok filled loaded e =
    let some = some_read read n ok ∙ is in
    subst (λ image. LoadsDigits (λ text. told ≡ text) image accepts (bytes_of digits) before after) (sym (some_image digits 6000 n some).0)
    (answer, subst (λ bytes. Loaded accepts bytes before answer after) (decoded_front digits 6000 n rest buffer then some filled) loaded, e)
