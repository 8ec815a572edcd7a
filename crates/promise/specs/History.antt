-- Histories: calls, their answers, and the plans between them. Assumes nothing.
use Rattle.std.specs.Prelude.{List, [], ◌∷◌, Ok, Err}
use Rattle.runs.specs.Plan.{Reservation}
use Rattle.board.specs.Admit.{told as told_rows}
use Rattle.board.specs.Withdraw.{told as told_keys}
use Rattle.board.specs.Withdraws.{Withdraws}
use Rattle.store.specs.Load.{Loaded}
use Rattle.store.specs.Loading.{Loads}
use Rattle.promise.specs.declared.call.Call.{Call}
use Rattle.promise.specs.declared.call.Answer.{Answer}
use Rattle.promise.specs.Meaning.{Meaning}
use Rattle.promise.specs.Plan.{Plan}
use Rattle.promise.specs.Admits.{Admits}
use Rattle.promise.specs.Kept.{reserved, dropped}
use Rattle.promise.specs.Stored.{stored_reservations}

-- what the rules allow: the answer to a call on a plan, and the plan afterwards. For a load they are said twice: in the words of the format,
-- and by the definition that computes them, which leaves no choice.
abbrev pub Derived : {R : Type 0} → Meaning R → Plan → Call → Answer → Plan → Type 0
Derived m plan (Call.Admit w) (Answer.Admitted r) after = Admits m.before m.rank m.accepts m.allows plan w.key w.budget w.deadline w.period (told_rows r) after
Derived m plan (Call.Admit w) (Answer.Withdrawn r) after = ⊥
Derived m plan (Call.Admit w) (Answer.Loaded r) after = ⊥
Derived m plan (Call.Withdraw k) (Answer.Admitted r) after = ⊥
Derived m plan (Call.Withdraw k) (Answer.Withdrawn r) after = Withdraws m.accepts k plan (told_keys r) after
Derived m plan (Call.Withdraw k) (Answer.Loaded r) after = ⊥
Derived m plan (Call.Load image) (Answer.Admitted r) after = ⊥
Derived m plan (Call.Load image) (Answer.Withdrawn r) after = ⊥
Derived m plan (Call.Load image) (Answer.Loaded r) after = Loads m.accepts image.now plan r after × Loaded m.accepts image.now plan r after

-- a history from one plan to another: each call with its answer leads from a plan to the next
pub data History {R : Type 0} (m : Meaning R) : Plan → List Call → List Answer → Plan → Type 0 where
  begins : {plan : Plan} → History m plan [] [] plan
  goes_on : {plan next last : Plan} {call : Call} {answer : Answer} {calls : List Call} {answers : List Answer}
      → Derived m plan call answer next → History m next calls answers last → History m plan (call ∷ calls) (answer ∷ answers) last

-- the accepted reservations after one more call: from its arguments and whether it was refused, and never from the plan
abbrev pub accepted_next : List Reservation → Call → Answer → List Reservation
accepted_next accepted (Call.Admit w) (Answer.Admitted (Ok rows)) = reserved w.key w.budget w.deadline w.period ∷ accepted
accepted_next accepted (Call.Admit w) (Answer.Admitted (Err fault)) = accepted
accepted_next accepted (Call.Admit w) (Answer.Withdrawn r) = accepted
accepted_next accepted (Call.Admit w) (Answer.Loaded r) = accepted
accepted_next accepted (Call.Withdraw k) (Answer.Admitted r) = accepted
accepted_next accepted (Call.Withdraw k) (Answer.Withdrawn (Ok keys)) = dropped k accepted
accepted_next accepted (Call.Withdraw k) (Answer.Withdrawn (Err fault)) = accepted
accepted_next accepted (Call.Withdraw k) (Answer.Loaded r) = accepted
accepted_next accepted (Call.Load image) (Answer.Admitted r) = accepted
accepted_next accepted (Call.Load image) (Answer.Withdrawn r) = accepted
accepted_next accepted (Call.Load image) (Answer.Loaded (Ok done)) = stored_reservations image.now
accepted_next accepted (Call.Load image) (Answer.Loaded (Err fault)) = accepted

-- and after a list of calls
abbrev pub accepted_after : List Reservation → List Call → List Answer → List Reservation
accepted_after accepted [] answers = accepted
accepted_after accepted (call ∷ calls) [] = accepted
accepted_after accepted (call ∷ calls) (answer ∷ answers) = accepted_after (accepted_next accepted call answer) calls answers
