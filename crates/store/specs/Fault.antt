-- A rule that fails at a place. Assumes nothing.
use Rattle.std.specs.Prelude.{ℕ}
use Rattle.store.specs.declared.fault.BufferFault.{BufferFault}
use Rattle.store.specs.declared.fault.BufferRule.{BufferRule}

abbrev pub fault : BufferRule → ℕ → BufferFault
fault rule place = record { rule = rule; place = place }
