use Rattle.std.proofs.Common.{◌≡◌, false, true, length, Ok, Err, vec_items, ap, sym, ◌∙◌, arith, rules}
use Rattle.std.proofs.lemmas.List.{length-map}
use Rattle.model.specs.declared.fault.NamingFault.{NamingFault}
use Rattle.processor.specs.Keys.{has_key}
use Rattle.processor.specs.Rows.{rows_of}
use Rattle.board.specs.Plan.{plan, lists}
use Rattle.board.specs.Keys.{stands}
use Rattle.processor.specs.Few.{held}
use Rattle.board.specs.Withdraw.{withdrawal}
use Rattle.board.proofs.Gathers.{by_rules, by_rules_only}
use Rattle.board.proofs.board.Board.withdraw.Goals as goal

pub returns-then-not-stands : goal.returns-then-not-stands
returns-then-not-stands g c =
    let b = c.args.self.now in let accepts = g.J.Judge.accepts b.judge in let key = c.args.key in
    let same : c.in-Ok.key ≡ key = search rules in
    let out : stands key (plan b) ≡ false = ap (λ k. stands k (plan b)) (sym same) ∙ sym c.if-not-stands.ensures in
    let answer : Err NamingFault.Key ≡ (withdrawal accepts key (plan b)).0 = search rules in
    let after : plan b ≡ (withdrawal accepts key (plan b)).1 = search rules in
    record {
      answer = answer;
      after = after;
      rules = by_rules accepts key (plan b) (Err NamingFault.Key) (plan b) answer after;
      only = by_rules_only accepts key (plan b) (Err NamingFault.Key) (plan b) answer after;
      judge = search rules;
      rule = search rules;
    }

pub gather-keys-requires : goal.gather-keys-requires
gather-keys-requires g c =
    let b = c.args.self.now in
    omega (
      arith,
      ap length (c.as_slice.ensures ∙ c.holders-visited.ensures),
      length-map (plan b) (has_key c.in-Ok.key),
      length-map (vec_items b.plan.processors) rows_of,
      c.remove.ensures.count,
    )

pub returns : goal.returns
returns g c =
    let b = c.args.self.now in let accepts = g.J.Judge.accepts b.judge in let key = c.args.key in
    let same : c.in-Ok.key ≡ key = search rules in
    let here : stands key (plan b) ≡ true = ap (λ k. stands k (plan b)) (sym same) ∙ sym c.if-not-stands.ensures in
    let keys = held c.gather-keys.result in let end = lists c.gather-keys.new.self in
    let answer : Ok keys ≡ (withdrawal accepts key (plan b)).0 = search rules in
    let after : end ≡ (withdrawal accepts key (plan b)).1 = search rules in
    record {
      answer = answer;
      after = after;
      rules = by_rules accepts key (plan b) (Ok keys) end answer after;
      only = by_rules_only accepts key (plan b) (Ok keys) end answer after;
      judge = search rules;
      rule = search rules;
    }
