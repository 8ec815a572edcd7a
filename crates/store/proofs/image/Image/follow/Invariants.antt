use Rattle.std.proofs.Common.{◌≡◌, ◌-◌, [], length}
use Rattle.processor.specs.Few.{held}
use Rattle.store.specs.Record.{next_at}
use Rattle.store.specs.Chains.{head_at, walk}
use Rattle.store.proofs.image.Image.follow.Given as goal

abbrev pub invariant-loop-number : goal.invariant-loop-number
invariant-loop-number l =
    walk (next_at l.self.processors l.self.bytes.now) l.self.records (32 - length (held l.chain)) l.number (held l.chain) l.reached
    ≡ walk (next_at l.self.processors l.self.bytes.now) l.self.records 32 (head_at l.self.bytes.now l.processor) [] l.initial.reached

abbrev pub decreases-loop-number : goal.decreases-loop-number
decreases-loop-number l = 32 - length (held l.chain)
