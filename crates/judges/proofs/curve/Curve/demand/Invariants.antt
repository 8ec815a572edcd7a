use Rattle.std.proofs.Common.{◌≡◌, ◌+◌, ◌*◌, ◌≤◌, map, length}
use Rattle.std.specs.Iterator.Adapters.{zip_first, zip_second}
use Rattle.std.specs.Slice.Iter.{iter_rest}
use Rattle.model.specs.Scale.{scale}
use Rattle.model.specs.Share.{share}
use Rattle.judges.specs.Approximate.{approximates}
use Rattle.judges.proofs.curve.Curve.demand.Given as goal

abbrev pub invariant-loop-x : goal.invariant-loop-x
invariant-loop-x l =
    let rest = iter_rest (zip_first l.x-iterator) in
    let slopes = iter_rest (zip_second l.x-iterator) in record {
      left : l.sum + approximates scale l.self.steps rest l.t ≡ approximates scale l.self.steps l.self.list.now l.t;
      paired : slopes ≡ map (share scale) rest;
      few : l.sum + scale * l.t * length rest ≤ 32 * (scale * l.t);
    }
