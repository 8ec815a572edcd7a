use Rattle.std.proofs.Common.{rules, ◌≡◌, ◌∙◌, sym, subst}
use Rattle.std.specs.List.{reduce}
use Rattle.placement.specs.First.{better, choice, Chosen}
use Rattle.placement.proofs.Foremost.{choice_reduce, chosen_first, chosen_once}
use Rattle.placement.proofs.first.choose.Goals as goal

pub returns : goal.returns
returns g c =
    let first = g.P.Rank.Rank.first in let ranks = g.P.Placement.ranks c.args.rule.now in let l = c.args.candidates.now in
    let law = g.met.P.Rank.Rank in
    let chained : c.reduce.result ≡ reduce (better first ranks) l = search rules in
    let value : c.reduce.result ≡ choice first ranks l = chained ∙ sym (choice_reduce first ranks l) in
    record {
      value = value;
      first = subst (Chosen first ranks l) (sym value) (chosen_first first ranks law.chain law.total l);
      only = λ d f. value ∙ chosen_once first ranks law.chain law.total law.apart l d f;
    }
