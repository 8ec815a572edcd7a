-- A saved plan and its image. Assumes nothing.
use Rattle.std.specs.Prelude.{◌≡◌, length, Ok, Result}
use Rattle.store.specs.declared.fault.BufferFault.{BufferFault}
use Rattle.store.specs.Image.{image}
use Rattle.store.specs.Loading.{Loads}
use Rattle.promise.specs.Meaning.{Meaning}
use Rattle.promise.specs.Plan.{Plan}

-- the image that save writes of a plan loads as that plan, and as nothing else, on every board of as many processors with this judge, whatever its rule and its plan
pub record LoadsAgain {R : Type 0} (m : Meaning R) (plan : Plan) : Type 0 where
  pub loads : (before : Plan) → length before ≡ length plan → Loads m.accepts (image plan) before (Ok tt) plan
  pub only : (before after : Plan) (answer : Result (Unit {0}) BufferFault) → length before ≡ length plan → Loads m.accepts (image plan) before answer after → (answer ≡ Ok tt) × (after ≡ plan)
