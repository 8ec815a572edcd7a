use Rattle.std.proofs.Common.{rules, tests, ◌≡◌, true, false, length, unwrap_or, eqb, refl}
use Rattle.std.proofs.lemmas.Iterator.{YieldsList-from_slice, IsFirst-from_position, index_from_first}
use Rattle.placement.specs.Ranks.{position}
use Rattle.placement.proofs.Orders.{position_here, position_past}
use Rattle.placement.proofs.order.Order.position.Goals as goal

pub returns : goal.returns
returns c =
    let p = c.args.processor in let l = c.args.self.now.processors in
    let first = IsFirst-from_position _ _ _ (λ x. eqb x p ≡ true) (λ x. eqb x p ≡ false) c.position-before.ensures.ran
    (YieldsList-from_slice l cc) (λ x q k. search (rules, tests)) (λ x q k. search (rules, tests)) in
    let found : position p l ≡ unwrap_or c.position-before.result (length l) = index_from_first (position p) (λ x. eqb x p ≡ true) (λ x. eqb x p ≡ false) refl (position_here p) (position_past p) l _ first in
    search rules
