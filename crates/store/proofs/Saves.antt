-- The image written part by part is the image written whole. Assumes nothing.
use Rattle.std.proofs.Common.{◌≡◌, ℕ, ◌+◌, ◌*◌, ◌≤◌, List, ◌++◌, length, refl, ◌∙◌, arith, length-append}
use Rattle.model.specs.declared.row.Row.{Row}
use Rattle.store.specs.Image.{header_bytes, heads_bytes, records_bytes, row_count, image}
use Rattle.store.specs.Buffer.{overwritten}
use Rattle.store.specs.declared.writer.Writer.{Writer}
use Rattle.store.specs.Written.{Wrote}
use Rattle.store.proofs.Buffers.{wrote_both}
use Rattle.store.proofs.Images.{length_heads, length_records}

pub length_image : (plan : List (List Row)) → length (image plan) ≡ 4 + 2 * length plan + 18 * row_count plan
length_image plan =
    omega (arith, length-append (heads_bytes 1 plan) (records_bytes 1 plan), length_heads 1 plan, length_records 1 plan)

-- the header, the heads and the records, one write after the other
pub image_wrote :
    (plan : List (List Row)) (a b c d : Writer) (header : List ℕ) (m r : ℕ) → length (image plan) ≤ length a.buffer.now → a.at ≡ 0 →
    header ≡ header_bytes m r → m ≡ length plan → r ≡ row_count plan → Wrote a b header → Wrote b c (heads_bytes 1 plan) → Wrote c d (records_bytes 1 plan) →
    b.at ≤ length b.buffer.now → d.buffer.now ≡ overwritten a.buffer.now 0 (image plan)
image_wrote plan a b c d header m r fits front is_header is-m is-r p q s within =
    let all = wrote_both a b d header (heads_bytes 1 plan ++ records_bytes 1 plan) p (wrote_both b c d (heads_bytes 1 plan) (records_bytes 1 plan) q s within) (omega arith) in
    all.buffer ∙ rw (front, is_header, is-m, is-r) refl
