use Rattle.std.proofs.Common.{◌++◌, string_bytes, sym, ap, ◌∙◌, append-nil, inl, inr}
use Rattle.std.specs.Iterator.Adapters.{enumerate_source, zip_first, zip_second}
use Rattle.std.specs.Slice.Iter.{iter_rest}
use Rattle.bench.proofs.Gathering.{gathered_end}
use Rattle.bench.proofs.telling.left.Goals as goal

pub returns : goal.returns
returns c =
    let pairs = enumerate_source c.loop-i.i-iterator in let text = string_bytes c.loop-i.text in
    let none = gathered_end _ (iter_rest (zip_first pairs)) (iter_rest (zip_second pairs))
    (elim c.in-None.ensures.steps.0 [ inl a ↦ inl a.1.0 | inr b ↦ inr b.1.0 ]) in
    sym (append-nil text) ∙ ap (λ rest. text ++ rest) (sym none) ∙ c.loop-i.invariant
