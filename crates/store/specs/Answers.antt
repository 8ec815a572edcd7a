-- A refusal or none, as an answer. Assumes nothing.
use Rattle.std.specs.Prelude.{Some, None, Ok, Err, Option, Result}
use Rattle.store.specs.declared.fault.BufferFault.{BufferFault}

abbrev pub answered : Option BufferFault → Result (Unit {0}) BufferFault
answered None = Ok tt
answered (Some f) = Err f
