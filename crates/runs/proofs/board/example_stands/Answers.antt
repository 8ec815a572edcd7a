use Rattle.std.proofs.Common.{◌<◌, ◌≤◌, [], get_or, refl, inl, inr, ⊎_elim, arith}
use Rattle.std.proofs.lemmas.Bool.{lt-ltb, le-ltb, cases_lt}
use Rattle.std.proofs.lemmas.Bool.Decides.{nat_tests}
use Rattle.model.specs.Row.{timings}
use Rattle.runs.specs.Processor.{DemandFits}
use Rattle.runs.specs.Board.{PartsOnce}
use Rattle.runs.specs.Example.{plan}
use Rattle.runs.proofs.board.example_stands.Goals as goal

first_fits : DemandFits (timings (get_or plan 0 []))
first_fits t = ⊎_elim
    (λ (l : t < 3). rw (lt-ltb t 3 l, lt-ltb t 10 (omega arith)) (omega arith))
    (λ (l : 3 ≤ t). ⊎_elim
    (λ (m : t < 10). rw (le-ltb t 3 l, lt-ltb t 10 m) (omega arith))
    (λ (m : 10 ≤ t). rw (le-ltb t 3 l, le-ltb t 10 m) (omega arith))
    (cases_lt t 10))
    (cases_lt t 3)

second_fits : DemandFits (timings (get_or plan 1 []))
second_fits t = ⊎_elim
    (λ (l : t < 10). rw (lt-ltb t 10 l, lt-ltb t 17 (omega arith)) (omega arith))
    (λ (l : 10 ≤ t). ⊎_elim
    (λ (m : t < 17). rw (le-ltb t 10 l, lt-ltb t 17 m) (omega arith))
    (λ (m : 17 ≤ t). rw (le-ltb t 10 l, le-ltb t 17 m) (omega arith))
    (cases_lt t 17))
    (cases_lt t 10)

once : PartsOnce plan
once key j = grind (arith, nat_tests)

pub returns : goal.returns
returns c = record {
  stands = record {
    owned = (
      (inl (refl, refl), (inr (inr (inl (refl, refl))), tt)),
      (
        (inr (inl (refl, refl)), (inr (inr (inl (refl, refl))), tt)),
        tt,
      ),
    );
    tight = ((refl, (refl, tt)), ((refl, (refl, tt)), tt));
    sums = (
      record { budget = refl; deadline = refl },
      (
        record { budget = refl; deadline = refl },
        (
          record { budget = refl; deadline = refl },
          tt,
        ),
      ),
    );
  };
  fits = (first_fits, (second_fits, tt));
  once = once;
}
