-- One write into a buffer after another. Assumes nothing.
use Rattle.std.proofs.Common.{◌≡◌, ℕ, ◌+◌, ◌≤◌, List, [], ◌++◌, length, take, drop, sym, refl, ap, ◌∙◌, append_assoc, add-zero, arith, length-append, length-drop, subst}
use Rattle.std.proofs.lemmas.List.{take_at, drop_at, drop-drop, take-append-drop, length-take-le}
use Rattle.store.specs.declared.writer.Writer.{Writer}
use Rattle.store.specs.Buffer.{overwritten}
use Rattle.store.specs.Written.{Wrote}

pub overwritten_none : (buffer : List ℕ) (at : ℕ) → overwritten buffer at [] ≡ buffer
overwritten_none buffer at = rw (add-zero at) (take-append-drop at buffer)

-- bytes written after others are one write
pub overwritten_more :
    (buffer : List ℕ) (at : ℕ) (a b : List ℕ) (next : ℕ) → next ≡ at + length a → at ≤ length buffer →
    overwritten (overwritten buffer at a) next b ≡ overwritten buffer at (a ++ b)
overwritten_more buffer at a b next is within =
    let P = take at buffer in
    let R = drop (at + length a) buffer in
    let n : length (P ++ a) ≡ next =
    length-append P a ∙ (ap (λ k. k + length a) (length-take-le at buffer within) ∙ sym is) in
    let t : take next (P ++ (a ++ R)) ≡ P ++ a = ap (take next) (sym (append_assoc P a R)) ∙ take_at (P ++ a) R next n in
    let sums : at + length a + length b ≡ at + length (a ++ b) = omega (arith, length-append a b) in
    let d : drop (next + length b) (P ++ (a ++ R)) ≡ drop (at + length (a ++ b)) buffer =
    ap (drop (next + length b)) (sym (append_assoc P a R))
    ∙ (sym (drop-drop (length b) next ((P ++ a) ++ R))
    ∙ (ap (drop (length b)) (drop_at (P ++ a) R next n)
    ∙ (drop-drop (length b) (at + length a) buffer ∙ ap (λ k. drop k buffer) sums))) in
    rw (t, d) (simp append_assoc)

pub length_overwritten :
    (buffer : List ℕ) (at : ℕ) (bytes : List ℕ) → at + length bytes ≤ length buffer → length (overwritten buffer at bytes) ≡ length buffer
length_overwritten buffer at bytes fits =
    omega (
      arith,
      length-append (take at buffer) (bytes ++ drop (at + length bytes) buffer),
      length-append bytes (drop (at + length bytes) buffer),
      length-take-le at buffer (omega arith),
      length-drop (at + length bytes) buffer,
    )

-- two writes, one after the other
pub wrote_both :
    (a b c : Writer) (x y : List ℕ) → Wrote a b x → Wrote b c y → a.at ≤ length a.buffer.now → Wrote a c (x ++ y)
wrote_both a b c x y p q within =
    record {
      same = q.same ∙ p.same;
      buffer =
          q.buffer ∙ (ap (λ s. overwritten s b.at y) p.buffer ∙ overwritten_more a.buffer.now a.at x y b.at p.at within);
      at = omega (arith, p.at, q.at, length-append x y);
    }

wrote_none : (a : Writer) → Wrote a a []
wrote_none a = record { same = refl; buffer = sym (overwritten_none a.buffer.now a.at); at = sym (add-zero a.at) }

-- whatever writes the rest from here on has written all from the start on
abbrev pub Left : Writer → Writer → List ℕ → List ℕ → Type 0
Left start here rest all = (w : Writer) → Wrote here w rest → Wrote start w all

-- a turn of a loop that writes
pub write_more :
    (start here next : Writer) (bytes more rest all : List ℕ) → Wrote here next bytes → here.at ≤ length here.buffer.now → rest ≡ bytes ++ more →
    Left start here rest all → Left start next more all
write_more start here next bytes more rest all wrote within split left =
    λ w h. left w (subst (Wrote here w) (sym split) (wrote_both here next w bytes more wrote h within))

-- its end
pub write_all : (start here : Writer) (rest all : List ℕ) → rest ≡ [] → Left start here rest all → Wrote start here all
write_all start here rest all none left = left here (subst (Wrote here here) (sym none) (wrote_none here))
