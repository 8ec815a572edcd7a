-- An allowance asks for two numbers, and then for rows. Assumes nothing.
use Rattle.std.proofs.Common.{◌≡◌, ℕ, ◌*◌, List, Ok, Err, Result, sym, ap, ◌∙◌}
use Rattle.model.specs.declared.timing.Timing.{Timing}
use Rattle.model.specs.declared.fault.LineFault.{LineFault}
use Rattle.model.specs.declared.fault.RequestFault.{RequestFault}
use Rattle.lines.specs.Numbers.{then_do}
use Rattle.benchlines.specs.Numbers.{number_at, checked, numbers_at, numbers_of}
use Rattle.processor.specs.declared.few.Few.{Few}
use Rattle.bench.specs.declared.refusal.Refusal.{Refusal}
use Rattle.bench.specs.Replies.{refused_at}
use Rattle.bench.specs.Timings.{timings_at, unless_line, timings_read, kept}
use Rattle.bench.specs.Outcomes.{refusal_number, refusal_place}
use Rattle.bench.specs.Answered.{unless_refused, allowed_text, allow_text}
use Rattle.bench.proofs.RowsRead.{checked_on}

rows_by : (one two : Result (Unit {0}) LineFault) (numbers taken : List ℕ) (timings : Result (List Timing) RequestFault) (refusal : Refusal)
    (allows : List Timing → ℕ → ℕ → ℕ) (period cap : ℕ) → Ok taken ≡ then_do one (λ u. Ok numbers) → Err refusal ≡ unless_line two timings →
    refused_at (refusal_number refusal) (refusal_place refusal) ≡ unless_refused (then_do one (λ u. two)) (allowed_text allows period cap timings)
rows_by (Err told) two numbers taken timings refusal allows period cap is err = absurd (cc)
rows_by (Ok u) (Err told) numbers taken timings refusal allows period cap is err =
    let same : refusal ≡ Refusal.Line told = cc in ap (λ r. refused_at (refusal_number r) (refusal_place r)) same
rows_by (Ok u) (Ok v) numbers taken (Ok xs) refusal allows period cap is err = absurd (cc)
rows_by (Ok u) (Ok v) numbers taken (Err told) refusal allows period cap is err =
    let same : refusal ≡ Refusal.Request told = cc in ap (λ r. refused_at (refusal_number r) (refusal_place r)) same

pub rows_refused : (fs : List (List ℕ)) (rows : ℕ) (taken : List ℕ) (read : Result (Few Timing 40) Refusal) (refusal : Refusal)
    (allows : List Timing → ℕ → ℕ → ℕ) → Ok taken ≡ numbers_of fs 1 2 → kept read ≡ timings_read fs 3 rows → read ≡ Err refusal →
    refused_at (refusal_number refusal) (refusal_place refusal) ≡ allow_text allows fs rows
rows_refused fs rows taken read refusal allows is are err =
    let text = allowed_text allows (number_at fs 1) (number_at fs 2) (timings_at fs 3 rows) in
    rows_by (checked fs 1 2) (checked fs 3 (3 * rows)) (numbers_at fs 1 2) taken (timings_at fs 3 rows) refusal allows
    (number_at fs 1) (number_at fs 2) is (ap kept (sym err) ∙ are)
    ∙ ap (λ c. unless_refused c text) (sym (checked_on fs 1 2 (3 * rows)))
