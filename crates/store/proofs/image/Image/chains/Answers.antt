use Rattle.std.proofs.Common.{Err, sym, ap, ◌∙◌, arith}
use Rattle.std.proofs.lemmas.Result.{err_from_is_err_and}
use Rattle.store.specs.InPlace.{all_held}
use Rattle.store.specs.Record.{next_at}
use Rattle.store.specs.Chains.{head_at, covered}
use Rattle.store.proofs.Walks.{walks_refused, walks_again, chains_end}
use Rattle.store.proofs.image.Image.chains.Goals as goal

pub returns-in_err-follow : goal.returns-in_err-follow
returns-in_err-follow c =
    let p = err_from_is_err_and c.from_residual.result c.from_residual.ensures.1 in
    let no = c.in_err-follow.ensures in
    rw (p.1, p.2, no.1)
    (ap (covered c.args.self.now.records)
    (sym c.loop-p.invariant.2
    ∙ walks_refused (head_at c.args.self.now.bytes.now) (next_at c.args.self.now.processors c.args.self.now.bytes.now) c.args.self.now.records
    c.args.self.now.processors c.loop-p.p _ c.loop-p.reached (omega arith) no.0))

pub loop-p-preserved : goal.loop-p-preserved
loop-p-preserved c = (
  omega arith,
  omega arith,
  walks_again (head_at c.args.self.now.bytes.now) (next_at c.args.self.now.processors c.args.self.now.bytes.now) c.args.self.now.records
      c.args.self.now.processors c.loop-p.p (all_held c.loop-p.chains) (all_held c.push.new.self) c.loop-p.reached c.follow.new.reached _ _
      (omega arith) c.in_ok-follow.ensures c.push.ensures.after c.loop-p.invariant.2,
)

pub returns-then-not-all_true : goal.returns-then-not-all_true
returns-then-not-all_true c =
    chains_end (head_at c.args.self.now.bytes.now) (next_at c.args.self.now.processors c.args.self.now.bytes.now) c.args.self.now.records
    c.args.self.now.processors c.loop-p.p (all_held c.loop-p.chains) c.loop-p.reached _ (omega arith) (omega arith)
    c.loop-p.invariant.2 c.if-not-all_true.ensures ∙ ap Err (sym c.anywhere.ensures)

pub returns : goal.returns
returns c = (
  chains_end (head_at c.args.self.now.bytes.now) (next_at c.args.self.now.processors c.args.self.now.bytes.now) c.args.self.now.records
      c.args.self.now.processors c.loop-p.p (all_held c.loop-p.chains) c.loop-p.reached _ (omega arith) (omega arith)
      c.loop-p.invariant.2 c.if-not-all_true.ensures,
  omega (arith, c.loop-p.invariant.1),
)
