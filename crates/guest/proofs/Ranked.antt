-- Odd first on a board that keeps the promise. Assumes nothing.
use Rattle.std.proofs.Common.{◌≡◌, ℕ, ◌%◌, true, eqb, ◌⊎◌, List, ap, inl, inr, arith}
use Rattle.std.proofs.lemmas.Bool.{false≢true, cond-true, cond-false, eq-eqb, ne_eqb}
use Rattle.promise.specs.declared.call.Call.{Call}
use Rattle.promise.specs.declared.call.Answer.{Answer}
use Rattle.promise.specs.Plan.{Plan}
use Rattle.promise.specs.History.{History, begins, goes_on}
use Rattle.promise.specs.Promise.{Along, FirstInRank}
use Rattle.guest.specs.declared.side.Side.{Side}
use Rattle.guest.specs.Sides.{side, sooner}
use Rattle.guest.specs.Placed.{guest_meaning, EvenOnlyThen}

-- what holds at every step, and what follows from it
along_from : (P Q : Plan → Call → Answer → Type 0) → ((plan : Plan) (call : Call) (answer : Answer) → P plan call answer → Q plan call answer) →
    {from to : Plan} {calls : List Call} {answers : List Answer} (h : History guest_meaning from calls answers to) → Along P h → Along Q h
along_from P Q step begins holds = tt
along_from P Q step (goes_on {plan = plan} {call = call} {answer = answer} derived rest) holds =
    (step plan call answer holds.0, along_from P Q step rest holds.1)

even_side : (p : ℕ) → p % 2 ≡ 0 → side p ≡ Side.Even p
even_side p e = cond-false (eqb (p % 2) 1) _ _ (ne_eqb (p % 2) 1 (λ one. omega arith))

odd_side : (q : ℕ) → q % 2 ≡ 1 → side q ≡ Side.Odd q
odd_side q e = cond-true (eqb (q % 2) 1) _ _ (eq-eqb (q % 2) 1 e)

-- an even side comes before no odd one, and is none
never_ahead : (a b : Side) (p q : ℕ) → a ≡ Side.Even p → b ≡ Side.Odd q → (sooner a b ≡ true) ⊎ (a ≡ b) → ⊥
never_ahead a b p q even odd (inl ahead) = false≢true (rw (even, odd) at ahead)
never_ahead a b p q even odd (inr same) =
    let both : ◌≡◌ {A = ℕ} 0 1 = cc in omega arith

step : (plan : Plan) (call : Call) (answer : Answer) → FirstInRank guest_meaning plan call answer → EvenOnlyThen plan call answer
step plan (Call.Admit w) (Answer.Admitted r) first = λ p x is even q odd takes.
    let ahead = (first p x is).1.ahead q takes (λ same. omega (arith, ap (λ n. n % 2) same)) in
    never_ahead (side p) (side q) p q (even_side p even) (odd_side q odd) (elim ahead [ inl h ↦ inl h | inr h ↦ inr h.0 ])
step plan (Call.Admit w) (Answer.Withdrawn r) first = tt
step plan (Call.Admit w) (Answer.Loaded r) first = tt
step plan (Call.Withdraw k) answer first = tt
step plan (Call.Load image) answer first = tt

pub even_only_then : {from to : Plan} {calls : List Call} {answers : List Answer} (h : History guest_meaning from calls answers to) →
    Along (FirstInRank guest_meaning) h → Along EvenOnlyThen h
even_only_then h holds = along_from (FirstInRank guest_meaning) EvenOnlyThen step h holds
