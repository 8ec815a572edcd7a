use Rattle.std.proofs.Common.{◌<◌, ◌≤◌, length, sym, ◌∙◌, arith, le-ltb, lt-ltb}
use Rattle.std.proofs.lemmas.List.{take_more_set, length-take}
use Rattle.processor.specs.Few.{held}
use Rattle.processor.proofs.Ends.{pushed_room, pushed_full}
use Rattle.processor.proofs.few.Few.push.Goals as goal

pub returns-then-self : goal.returns-then-self
returns-then-self g c =
    let s = c.args.self.now in
    let full : g.row.N ≤ length (held s) = omega (arith, length-take s.len s.items) in
    record {
      room = sym (le-ltb (length (held s)) g.row.N full);
      after = sym (pushed_full g.row.N (held s) c.args.x full);
      end = λ lt. absurd (omega (arith, full, lt));
    }

pub returns : goal.returns
returns g c =
    let s = c.args.self.now in
    let within : s.len < length s.items = omega arith in
    let room : length (held s) < g.row.N = omega (arith, length-take s.len s.items) in
    record {
      room = sym (lt-ltb (length (held s)) g.row.N room);
      after = take_more_set s.items s.len c.args.x within ∙ sym (pushed_room g.row.N (held s) c.args.x room);
      end = λ lt. take_more_set s.items s.len c.args.x within;
    }
