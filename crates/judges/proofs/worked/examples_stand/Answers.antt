use Rattle.std.proofs.Common.{[], ◌∷◌, refl, arith}
use Rattle.model.specs.Scale.{scale}
use Rattle.judges.specs.Examples.{third}
use Rattle.judges.specs.Judged.{demand_dense}
use Rattle.judges.proofs.worked.examples_stand.Goals as goal

pub returns : goal.returns
returns c =
    record {
      halves_fill = refl;
      least_density = refl;
      halves_full = refl;
      two_thirds = λ n. demand_dense scale n (third ∷ third ∷ []) (omega arith) (omega arith);
      thirds_round_up = refl;
      three_thirds = λ n. refl;
      short_densities = refl;
      short_dense = refl;
      short_demand = refl;
      tight_demand = refl;
      tight_time = refl;
      tight_line = refl;
      tight_step = refl;
      tail_line = refl;
      tail_step = refl;
      tail_capped = refl;
      tail_first = refl;
      tail_second = refl;
      tail_third = refl;
    }
