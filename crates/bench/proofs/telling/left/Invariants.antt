use Rattle.std.proofs.Common.{◌≡◌, ◌+◌, ◌++◌, map, string_bytes}
use Rattle.std.specs.Iterator.Adapters.{enumerate_source, enumerate_count, zip_first, zip_second}
use Rattle.std.specs.Slice.Iter.{iter_rest}
use Rattle.processor.specs.Rows.{rows_of}
use Rattle.bench.specs.Rows.{gathered_text, left_text}
use Rattle.bench.proofs.telling.left.Given as goal

-- what is written and what is still to come make all
abbrev pub invariant-loop-i : goal.invariant-loop-i
invariant-loop-i l =
    let pairs = enumerate_source l.i-iterator in
    string_bytes l.text ++ gathered_text (enumerate_count l.i-iterator + 1) (iter_rest (zip_first pairs)) (map rows_of (iter_rest (zip_second pairs)))
    ≡ left_text l.key l.keys (map rows_of l.processors)
