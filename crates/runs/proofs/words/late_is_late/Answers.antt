use Rattle.std.proofs.Common.{arith}
use Rattle.runs.proofs.Late.{late_refutes}
use Rattle.runs.proofs.words.late_is_late.Goals as goal

pub returns : goal.returns
returns c = record {
  piece = λ work run late in_time. omega (arith, late.lacks, in_time);
  instances = late_refutes;
}
