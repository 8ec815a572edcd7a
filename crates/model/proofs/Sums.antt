-- What is summed along a list of timings is the library's sum. Assumes nothing.
use Rattle.std.proofs.Common.{◌≡◌, ℕ, ◌+◌, List, [], ◌∷◌, refl, ap, ◌∙◌, sum_by}
use Rattle.std.proofs.lemmas.List.Sums.{sum_by-cons}
use Rattle.model.specs.declared.timing.Timing.{Timing}
use Rattle.model.specs.Share.{share, shares, density, densities}

pub densities_sum : (s : ℕ) (l : List Timing) → sum_by (density s) l ≡ densities s l
densities_sum s [] = refl
densities_sum s (x ∷ l) = sum_by-cons (density s) x l ∙ ap (λ k. density s x + k) (densities_sum s l)

pub shares_sum : (s : ℕ) (l : List Timing) → sum_by (share s) l ≡ shares s l
shares_sum s [] = refl
shares_sum s (x ∷ l) = sum_by-cons (share s) x l ∙ ap (λ k. share s x + k) (shares_sum s l)
