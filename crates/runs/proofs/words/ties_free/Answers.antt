use Rattle.std.proofs.Common.{◌≡◌, ℕ, zero, suc, ◌<◌, ◌≤◌, List, sym, refl, ap, subst₂, arith}
use Rattle.runs.specs.Pieces.{Stream, row}
use Rattle.runs.specs.Run.{Slot, gives, served, Waits}
use Rattle.runs.proofs.words.ties_free.Goals as goal

served-same : (run other : ℕ → Slot) (a b t : ℕ) → ((u : ℕ) → u < t → other u ≡ run u) → served other a b t ≡ served run a b t
served-same run other a b zero same = refl
served-same run other a b (suc t) same =
    omega (arith, served-same run other a b t (λ u lt. same u (omega arith)), ap (λ s. gives s a b) (same t (omega arith)))

waits-same : (work : List Stream) (run other : ℕ → Slot) (t a b : ℕ) → ((u : ℕ) → u < t → other u ≡ run u) → Waits work run t a b → Waits work other t a b
waits-same work run other t a b same w = record {
  real = w.real;
  started = w.started;
  lacks = omega (arith, w.lacks, served-same run other a b t same);
}

pub returns : goal.returns
returns c = λ work run other t i k j m rule serving waits tie same now'. record {
  waiting = λ a b e.
      let one : j ≡ a = cc in
      let two : m ≡ b = cc in
      subst₂ (λ p q. Waits work other t p q) one two (waits-same work run other t j m same waits);
  earliest = λ a b p q e w.
      let one : j ≡ a = cc in
      let two : m ≡ b = cc in
      let first = rule.earliest i k p q serving (waits-same work other run t p q (λ u lt. sym (same u lt)) w) in
      subst₂ (λ x y. (row work x).due y ≤ (row work p).due q) one two (omega (arith, tie, first));
  busy = λ e a b w. let z : ◌≡◌ {A = ℕ} 0 1 = cc in omega arith;
}
