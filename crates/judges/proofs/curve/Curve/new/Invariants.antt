use Rattle.std.proofs.Common.{◌≡◌, ◌+◌, ◌*◌, ◌≤◌, map, length, take, drop}
use Rattle.model.specs.Scale.{scale}
use Rattle.model.specs.Share.{share, shares}
use Rattle.judges.proofs.curve.Curve.new.Given as goal

abbrev pub invariant-loop-i : goal.invariant-loop-i
invariant-loop-i l = record {
  size : length l.slopes ≡ 32;
  paired : take l.i l.slopes ≡ map (share scale) (take l.i l.list);
  summed : l.sum + shares scale (drop l.i l.list) ≡ shares scale l.list;
  within : l.sum ≤ scale * l.i;
}
