use Rattle.std.proofs.Common.{◌≡◌, ◌-◌, false, [], length, replicate}
use Rattle.store.specs.Record.{next_at}
use Rattle.store.specs.InPlace.{all_held}
use Rattle.store.specs.Chains.{head_at, walks}
use Rattle.store.proofs.image.Image.chains.Given as goal

abbrev pub invariant-loop-p : goal.invariant-loop-p
invariant-loop-p l =
    (length l.reached ≡ 256) × (l.chains.count ≡ l.p)
    × (walks (head_at l.self.bytes.now) (next_at l.self.processors l.self.bytes.now) l.self.records (l.self.processors - l.p) l.p
    (all_held l.chains) l.reached
    ≡ walks (head_at l.self.bytes.now) (next_at l.self.processors l.self.bytes.now) l.self.records l.self.processors 0 [] (replicate 256 false))
