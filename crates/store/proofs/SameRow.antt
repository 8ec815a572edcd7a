-- A row is what is stored of it. Assumes nothing.
use Rattle.std.proofs.Common.{◌≡◌, ℕ, ◌≤◌, List, [], ◌∷◌, map, refl, ap, arith}
use mathlib.Core.HLevel.{is_prop→PathP}
use native.Mathlib.Bridge.{le_prop}
use Rattle.model.specs.declared.timing.Timing.{Timing}
use Rattle.model.specs.declared.row.Kind.{Kind}
use Rattle.model.specs.declared.row.Row.{Row}
use Rattle.model.specs.Row.{kind_number, part}
use Rattle.store.specs.Record.{entry}

timing_same : (x y : Timing) → x.budget ≡ y.budget → x.deadline ≡ y.deadline → x.period ≡ y.period → x ≡ y
timing_same x y c d t = λ i. record {
  budget = c i;
  deadline = d i;
  period = t i;
  some = is_prop→PathP (λ k. 1 ≤ c k) (λ k. le_prop) x.some y.some i;
  fits = is_prop→PathP (λ k. c k ≤ d k) (λ k. le_prop) x.fits y.fits i;
  constrained = is_prop→PathP (λ k. d k ≤ t k) (λ k. le_prop) x.constrained y.constrained i;
  short = is_prop→PathP (λ k. t k ≤ 100000) (λ k. le_prop) x.short y.short i;
}

kind_same : (j k : Kind) → kind_number j ≡ kind_number k → part j ≡ part k → j ≡ k
kind_same Kind.Whole Kind.Whole n p = refl
kind_same Kind.Whole Kind.Head n p = absurd (omega arith)
kind_same Kind.Whole (Kind.Tail q) n p = absurd (omega arith)
kind_same Kind.Head Kind.Whole n p = absurd (omega arith)
kind_same Kind.Head Kind.Head n p = refl
kind_same Kind.Head (Kind.Tail q) n p = absurd (omega arith)
kind_same (Kind.Tail o) Kind.Whole n p = absurd (omega arith)
kind_same (Kind.Tail o) Kind.Head n p = absurd (omega arith)
kind_same (Kind.Tail o) (Kind.Tail q) n p = ap Kind.Tail p

pub row_same : (x y : Row) → entry x ≡ entry y → x ≡ y
row_same x y e = λ i. record {
  key = (e i).key;
  kind = kind_same x.kind y.kind (ap (λ q. q.kind) e) (ap (λ q. q.part) e) i;
  timing = timing_same x.timing y.timing (ap (λ q. q.budget) e) (ap (λ q. q.deadline) e) (ap (λ q. q.period) e) i;
}

module _ {A B : Type 0} (f : A → B) (inj : (x y : A) → f x ≡ f y → x ≡ y) where
  pub map_same : (l m : List A) → map f l ≡ map f m → l ≡ m
  map_same [] [] e = refl
  map_same [] (y ∷ m) e = let z : ◌≡◌ {A = ℕ} 0 1 = cc in absurd (omega arith)
  map_same (x ∷ l) [] e = let z : ◌≡◌ {A = ℕ} 0 1 = cc in absurd (omega arith)
  map_same (x ∷ l) (y ∷ m) e =
      let h : f x ≡ f y = cc in
      let t : map f l ≡ map f m = cc in
      λ i. inj x y h i ∷ map_same l m t i

pub plan_same : (p q : List (List Row)) → map (map entry) p ≡ map (map entry) q → p ≡ q
plan_same = map_same (map entry) (map_same entry row_same)
