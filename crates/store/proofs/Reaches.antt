-- Every number on a chain is that of a record, and the rows picked along chains are what the records say. Assumes nothing.
use Rattle.std.proofs.Common.{◌≡◌, ℕ, zero, suc, ◌+◌, ◌-◌, ◌<◌, ◌≤◌, Bool, false, cond, eqb, ltb, List, [], ◌∷◌, ◌++◌, map, get_or, take, replicate, Some, None, Ok, Err, Option, Result, refl, ap, ◌∙◌, subst, ap₂, arith, lit≤}
use Rattle.std.specs.List.{AllByRecursion}
use Rattle.std.proofs.ByRecursion.{All-push}
use Rattle.std.proofs.lemmas.Bool.{cond_both, eqb-false, ltb-false, or_parts}
use Rattle.model.specs.declared.row.Kind.{Kind}
use Rattle.model.specs.declared.row.Row.{Row}
use Rattle.store.specs.declared.entry.Entry.{Entry}
use Rattle.store.specs.declared.fault.BufferFault.{BufferFault}
use Rattle.store.specs.declared.fault.BufferRule.{BufferRule}
use Rattle.store.specs.Fault.{fault}
use Rattle.store.specs.Record.{entry}
use Rattle.store.specs.Records.{Numbered, picked}
use Rattle.store.specs.Chains.{barred, reach, walk, walks, sound_or, all_true, covered, chains}

abbrev pub WalkNumbered : ℕ → Option (List ℕ × List Bool) → Type 0
WalkNumbered r (Some w) = Numbered r w.0
WalkNumbered r None = Unit {0}

pub walk_numbered :
    (next : ℕ → ℕ) (r room number : ℕ) (so_far : List ℕ) (reached : List Bool) → Numbered r so_far →
    WalkNumbered r (walk next r room number so_far reached)
unfolding walk
walk_numbered next r zero number so_far reached all =
    cond_both (eqb number 0) (Some (so_far, reached)) None (WalkNumbered r) (λ _. all) (λ _. tt)
walk_numbered next r (suc room) number so_far reached all =
    cond_both (eqb number 0) (Some (so_far, reached))
    (cond (barred r reached number) None (walk next r room (next number) (so_far ++ (number ∷ [])) (reach reached number)))
    (WalkNumbered r) (λ _. all)
    (λ nz. cond_both (barred r reached number) None (walk next r room (next number) (so_far ++ (number ∷ [])) (reach reached number))
    (WalkNumbered r) (λ _. tt)
    (λ b. walk_numbered next r room (next number) (so_far ++ (number ∷ [])) (reach reached number)
    (All-push (λ n. (1 ≤ n) × (n ≤ r)) so_far number all
    (omega (arith, eqb-false number 0 nz), ltb-false r number (or_parts (ltb r number) (get_or reached (number - 1) false) b).0))))

abbrev WalksNumbered : ℕ → Result (List (List ℕ) × List Bool) BufferFault → Type 0
WalksNumbered r (Ok w) = AllByRecursion (Numbered r) w.0
WalksNumbered r (Err f) = Unit {0}

sound_or_numbered :
    (r place : ℕ) (o : Option (List ℕ × List Bool)) (more : List ℕ × List Bool → Result (List (List ℕ) × List Bool) BufferFault) →
    WalkNumbered r o → ((w : List ℕ × List Bool) → Numbered r w.0 → WalksNumbered r (more w)) → WalksNumbered r (sound_or place o more)
sound_or_numbered r place None more all then = tt
sound_or_numbered r place (Some w) more all then = then w all

walks_numbered :
    (head next : ℕ → ℕ) (r left p : ℕ) (so_far : List (List ℕ)) (reached : List Bool) → AllByRecursion (Numbered r) so_far →
    WalksNumbered r (walks head next r left p so_far reached)
unfolding walks
walks_numbered head next r zero p so_far reached all = all
walks_numbered head next r (suc left) p so_far reached all =
    sound_or_numbered r (p + 1) (walk next r 32 (head p) [] reached)
    (λ w. walks head next r left (p + 1) (so_far ++ (w.0 ∷ [])) w.1)
    (walk_numbered next r 32 (head p) [] reached tt)
    (λ w here. walks_numbered head next r left (p + 1) (so_far ++ (w.0 ∷ [])) w.1 (All-push (Numbered r) so_far w.0 all here))

abbrev ChainsNumbered : ℕ → Result (List (List ℕ)) BufferFault → Type 0
ChainsNumbered r (Ok l) = AllByRecursion (Numbered r) l
ChainsNumbered r (Err f) = Unit {0}

covered_numbered : (r : ℕ) (w : Result (List (List ℕ) × List Bool) BufferFault) → WalksNumbered r w → ChainsNumbered r (covered r w)
covered_numbered r (Ok w) all =
    cond_both (all_true (take r w.1)) (Ok w.0) (Err (fault BufferRule.Chains 0)) (ChainsNumbered r) (λ _. all) (λ _. tt)
covered_numbered r (Err f) all = tt

pub chains_numbered : (head next : ℕ → ℕ) (m r : ℕ) (l : List (List ℕ)) → chains head next m r ≡ Ok l → AllByRecursion (Numbered r) l
chains_numbered head next m r l e =
    subst (ChainsNumbered r) e
    (covered_numbered r (walks head next r m 0 [] (replicate 256 false)) (walks_numbered head next r m 0 [] (replicate 256 false) tt))

module _ (says : ℕ → Entry) (rows : List Row) (r : ℕ) (d : Row)
    (read : (k : ℕ) (d : Row) → k < r → entry (get_or rows k d) ≡ says (k + 1)) where
  picked_says : (numbers : List ℕ) → Numbered r numbers → map entry (picked rows d numbers) ≡ map says numbers
  picked_says [] all = refl
  picked_says (n ∷ numbers) all =
      let same : n - 1 + 1 ≡ n = omega arith in
      ap₂ (λ (e : Entry) (l : List Entry). e ∷ l) (read (n - 1) d (omega arith) ∙ ap says same) (picked_says numbers all.1)

  pub picked_all :
      (chains : List (List ℕ)) → AllByRecursion (Numbered r) chains →
      map (map entry) (map (picked rows d) chains) ≡ map (map says) chains
  picked_all [] all = refl
  picked_all (c ∷ chains) all =
      ap₂ (λ (e : List Entry) (l : List (List Entry)). e ∷ l) (picked_says c all.0) (picked_all chains all.1)

-- some row
pub blank : Row
blank = record {
  key = 0;
  kind = Kind.Whole;
  timing = record {
    budget = 1;
    deadline = 1;
    period = 1;
    some = lit≤ tt;
    fits = lit≤ tt;
    constrained = lit≤ tt;
    short = lit≤ tt;
  };
}
