-- Texts written into a buffer one after the other. Assumes nothing.
use Rattle.std.proofs.Common.{◌≡◌, ℕ, ◌+◌, ◌≤◌, List, [], ◌++◌, length, sym, refl, ap, ◌∙◌, add-zero, arith}
use lib.Seq.{paste}
use Rattle.std.proofs.lemmas.List.{length-append, take-append-drop}
use Rattle.std.proofs.lemmas.List.Edits.{paste_all, paste-paste}
use Rattle.lines.specs.Replies.{put, Wrote}

put_paste : (out : List ℕ) (at : ℕ) (text : List ℕ) → put out at text ≡ paste out at text (length text)
put_paste out at text = sym (paste_all out at text (length text) refl)

put_put : (out : List ℕ) (at : ℕ) (s t : List ℕ) → at ≤ length out → put (put out at s) (at + length s) t ≡ put out at (s ++ t)
put_put out at s t within =
    put_paste (put out at s) (at + length s) t
    ∙ (ap (λ l. paste l (at + length s) t (length t)) (put_paste out at s)
    ∙ (paste-paste out at s t (length s) (length t) refl refl within
    ∙ paste_all out at (s ++ t) (length s + length t) (sym (length-append s t)))
    ∙ rw length-append)

pub wrote_none : (out : List ℕ) (at : ℕ) → Wrote out at [] out at
wrote_none out at = record { bytes = rw add-zero (sym (take-append-drop at out)); place = omega arith }

-- one text after another is both
pub wrote_then : (out : List ℕ) (at : ℕ) (s mid : List ℕ) (place : ℕ) (t after : List ℕ) (end : ℕ) → at ≤ length out
    → Wrote out at s mid place → Wrote mid place t after end → Wrote out at (s ++ t) after end
wrote_then out at s mid place t after end within first second =
    record {
      bytes = second.bytes ∙ (rw (first.bytes, first.place) (put_put out at s t within));
      place = omega (arith, first.place, second.place, length-append s t);
    }
