-- The number of each refusal. Assumes nothing.
use Rattle.std.specs.Prelude.{ℕ}
use Rattle.model.specs.Refusal.{setup_number, request_number}
use Rattle.store.specs.Refusal.{buffer_number}
use Rattle.exports.specs.declared.refusal.Refusal.{Refusal}

-- what a host is told
abbrev pub refusal_number : Refusal → ℕ
refusal_number (Refusal.Setup f) = setup_number f
refusal_number Refusal.Rows = 51
refusal_number (Refusal.Row f) = request_number f
refusal_number (Refusal.Image f) = buffer_number f.rule
refusal_number Refusal.Memory = 255
