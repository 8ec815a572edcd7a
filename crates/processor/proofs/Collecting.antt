-- A list that was collected holds all that its iterator gives, where there is room. Assumes nothing.
use Rattle.std.proofs.Common.{◌≡◌, ℕ, ◌≤◌, List, length, take, Option, sym, ap, subst, ◌∙◌}
use Rattle.std.proofs.iter.runs.Made.{took}
use Rattle.std.proofs.lemmas.Iterator.{YieldsList, items_from_drains}
use Rattle.std.proofs.lemmas.List.{take_all, map-id}
use Rattle.std.specs.Iterator.{DrainsIf, Yields}
use Rattle.std.specs.Iterator.Runs.{WholeRun}

pub collected_all :
    {S X : Type 0} {steps : S → Option X → S → Type 0} {s : S} {all : List X} (n : ℕ) (list : List X) →
    WholeRun steps s (λ p. list ≡ take n p.items) → YieldsList steps (λ x. x) s all → length all ≤ n → list ≡ all
collected_all {steps = steps} {all = all} n list run road room =
    let p = run.0 in let ran = took p in
    let drains : DrainsIf steps (Unit {0}) _ p.items = (ran.0, subst (λ k. Yields steps k p.items ran.0) run.1 ran.1, λ _. ran.2 run.2) in
    let items : p.items ≡ all = sym (map-id p.items) ∙ items_from_drains p.items drains road in
    run.3 ∙ ap (take n) items ∙ take_all n all room
