-- A withdrawal as it is defined is what its rules allow, and nothing else is. Assumes nothing.
use Rattle.std.proofs.Common.{◌≡◌, ℕ, suc, ◌≤◌, Bool, true, false, cond, List, [], ◌∷◌, ◌++◌, map, get_or, Some, None, Ok, Err, Option, Result, sym, refl, ap, ◌∙◌, subst, arith}
use native.Mathlib.Decide.{dec_le}
use Rattle.model.specs.Row.{timings, due}
use Rattle.model.specs.declared.timing.Timing.{Timing}
use Rattle.model.specs.declared.row.Row.{Row}
use Rattle.model.specs.declared.fault.NamingFault.{NamingFault}
use Rattle.processor.specs.Keys.{has_key}
use Rattle.board.specs.Timed.{timed_by}
use Rattle.processor.specs.Gathering.{candidate, others}
use Rattle.board.specs.Withdraw.{sum_over, without, whole, gather, gather_from, known, withdrawn, withdrawal}
use Rattle.processor.specs.Candidate.{Candidate}
use Rattle.board.specs.Withdraws.{WholeForm, Gathers, nobody, stays, joins, Visits, done, passed, visited, Withdraws, refused, gone}
use Rattle.board.proofs.Timed.{made}
use Rattle.board.proofs.Gathering.{gather_none, gather_unfit, gather_asked}
use Rattle.processor.proofs.Heads.{candidate_only, candidate_gives}

-- a timing made of some numbers has them
has_by : (c d t : ℕ) (x : Timing) (a : Dec (1 ≤ c)) (b : Dec (c ≤ d)) (e : Dec (d ≤ t)) (f : Dec (t ≤ 100000)) → timed_by c d t a b e f ≡ Some x →
    (x.budget ≡ c) × (x.deadline ≡ d) × (x.period ≡ t)
has_by c d t x (no n) b e f h = let z : ◌≡◌ {A = ℕ} 0 1 = cc in absurd (omega arith)
has_by c d t x (yes a) (no n) e f h = let z : ◌≡◌ {A = ℕ} 0 1 = cc in absurd (omega arith)
has_by c d t x (yes a) (yes b) (no n) f h = let z : ◌≡◌ {A = ℕ} 0 1 = cc in absurd (omega arith)
has_by c d t x (yes a) (yes b) (yes e) (no n) h = let z : ◌≡◌ {A = ℕ} 0 1 = cc in absurd (omega arith)
has_by c d t x (yes a) (yes b) (yes e) (yes f) h =
    let same : record { budget = c; deadline = d; period = t; some = a; fits = b; constrained = e; short = f } ≡ x = cc in
    (sym (ap (λ (y : Timing). y.budget) same), sym (ap (λ (y : Timing). y.deadline) same), sym (ap (λ (y : Timing). y.period) same))

-- the whole form is a timing's numbers
whole_only : (plan : List (List Row)) (row : Row) (x : Timing) → WholeForm plan row x → whole plan row ≡ Some x
whole_only plan row x w = sym (made x _ _ _ w.budget w.deadline w.period)

whole_gives : (plan : List (List Row)) (row : Row) (x : Timing) → whole plan row ≡ Some x → WholeForm plan row x
whole_gives plan row x e =
    let h = has_by (sum_over (λ r. r.timing.budget) row.key plan) (sum_over due row.key plan) row.timing.period x (dec_le _ _) (dec_le _ _) (dec_le _ _) (dec_le _ _) e in
    record { budget = h.0; deadline = h.1; period = h.2 }

none_some : {X : Type 0} {o : Option X} (x : X) → o ≡ None → o ≡ Some x → ⊥
none_some x p q = let z : ◌≡◌ {A = ℕ} 0 1 = cc in omega arith

module _ (accepts : List Timing → Bool) (p : ℕ) (plan : List (List Row)) where
  abbrev asked : Row → Timing → Bool
  asked row x = accepts (timings (others row.key (get_or plan p [])) ++ (x ∷ []))

  -- a step that the rules allow is the one computed
  idle : (o : Option Row) → candidate (get_or plan p []) ≡ o → ((row : Row) → Candidate (get_or plan p []) row → ⊥) → gather accepts p plan ≡ (0, plan)
  idle None e none = gather_none accepts p plan e
  idle (Some row) e none = absurd (none row (candidate_gives (get_or plan p []) row e))

  kept : (row : Row) (o : Option Timing) → candidate (get_or plan p []) ≡ Some row → whole plan row ≡ o →
      ((x : Timing) → WholeForm plan row x → asked row x ≡ false) → gather accepts p plan ≡ (0, plan)
  kept row None found e refuses = gather_unfit accepts p plan row found e
  kept row (Some x) found e refuses = gather_asked accepts p plan row found x false e (refuses x (whole_gives plan row x e))

  gathers_only : (k : ℕ) (after : List (List Row)) → Gathers accepts p plan k after → (k ≡ (gather accepts p plan).0) × (after ≡ (gather accepts p plan).1)
  gathers_only k after (nobody none e f) =
      let g = idle (candidate (get_or plan p [])) refl none in (e ∙ sym (ap (λ r. r.0) g), f ∙ sym (ap (λ r. r.1) g))
  gathers_only k after (stays row c refuses e f) =
      let g = kept row (whole plan row) (candidate_only (get_or plan p []) row c) refl refuses in (e ∙ sym (ap (λ r. r.0) g), f ∙ sym (ap (λ r. r.1) g))
  gathers_only k after (joins row x c w says e f) =
      let g = gather_asked accepts p plan row (candidate_only (get_or plan p []) row c) x true (whole_only plan row x w) says in
      (e ∙ sym (ap (λ r. r.0) g), f ∙ sym (ap (λ r. r.1) g))

  -- the step computed is allowed
  allowed_asked : (row : Row) (x : Timing) (b : Bool) → candidate (get_or plan p []) ≡ Some row → whole plan row ≡ Some x → asked row x ≡ b →
      Gathers accepts p plan (gather accepts p plan).0 (gather accepts p plan).1
  allowed_asked row x true found fit says =
      let g = gather_asked accepts p plan row found x true fit says in
      joins row x (candidate_gives (get_or plan p []) row found) (whole_gives plan row x fit) says (ap (λ r. r.0) g) (ap (λ r. r.1) g)
  allowed_asked row x false found fit says =
      let g = gather_asked accepts p plan row found x false fit says in
      stays row (candidate_gives (get_or plan p []) row found)
      (λ y w. let other = whole_only plan row y w in let same : x ≡ y = cc in subst (λ z. asked row z ≡ false) same says)
      (ap (λ r. r.0) g) (ap (λ r. r.1) g)

  allowed_whole : (row : Row) (o : Option Timing) → candidate (get_or plan p []) ≡ Some row → whole plan row ≡ o →
      Gathers accepts p plan (gather accepts p plan).0 (gather accepts p plan).1
  allowed_whole row None found e =
      let g = gather_unfit accepts p plan row found e in
      stays row (candidate_gives (get_or plan p []) row found) (λ x w. absurd (none_some x e (whole_only plan row x w))) (ap (λ r. r.0) g) (ap (λ r. r.1) g)
  allowed_whole row (Some x) found e = allowed_asked row x (asked row x) found e refl

  allowed : (o : Option Row) → candidate (get_or plan p []) ≡ o → Gathers accepts p plan (gather accepts p plan).0 (gather accepts p plan).1
  allowed None e =
      let g = gather_none accepts p plan e in
      nobody (λ row c. none_some row e (candidate_only (get_or plan p []) row c)) (ap (λ r. r.0) g) (ap (λ r. r.1) g)
  allowed (Some row) e = allowed_whole row (whole plan row) e refl

module _ (accepts : List Timing → Bool) where
  visits_give : (held : List Bool) (p : ℕ) (plan : List (List Row)) → Visits accepts p held plan (gather_from accepts p held plan).0 (gather_from accepts p held plan).1
  visits_give [] p plan = done
  visits_give (false ∷ held) p plan = passed (visits_give held (suc p) plan)
  visits_give (true ∷ held) p plan =
      visited (allowed accepts p plan (candidate (get_or plan p [])) refl) (visits_give held (suc p) (gather accepts p plan).1)

  visits_only : {p : ℕ} {held : List Bool} {plan after : List (List Row)} {keys : List ℕ} → Visits accepts p held plan keys after →
      (keys ≡ (gather_from accepts p held plan).0) × (after ≡ (gather_from accepts p held plan).1)
  visits_only done = (refl, refl)
  visits_only (passed v) = let r = visits_only v in (ap (λ l. 0 ∷ l) r.0, r.1)
  visits_only (visited {p = p} {k = k} {held = held} {plan = plan} {next = next} {keys = keys} g v) =
      let here = gathers_only accepts p plan k next g in let r = visits_only v in (
        ap (λ l. k ∷ l) (r.0 ∙ ap (λ n. (gather_from accepts (suc p) held n).0) here.1) ∙ ap (λ n. n ∷ (gather_from accepts (suc p) held (gather accepts p plan).1).0) here.0,
        r.1 ∙ ap (λ n. (gather_from accepts (suc p) held n).1) here.1,
      )

  abbrev outcome : ℕ → List (List Row) → Bool → Result (List ℕ) NamingFault × List (List Row)
  outcome key plan b = cond b (Ok (withdrawn accepts key plan).0, (withdrawn accepts key plan).1) (Err NamingFault.Key, plan)

  decided : (key : ℕ) (plan : List (List Row)) (b : Bool) → known key plan ≡ b → Withdraws accepts key plan (outcome key plan b).0 (outcome key plan b).1
  decided key plan true e = gone (withdrawn accepts key plan).0 e (visits_give (map (has_key key) plan) 0 (without key plan)) refl
  decided key plan false e = refused e refl refl

  withdraws_gives : (key : ℕ) (plan : List (List Row)) → Withdraws accepts key plan (withdrawal accepts key plan).0 (withdrawal accepts key plan).1
  withdraws_gives key plan = decided key plan (known key plan) refl

  withdraws_only : (key : ℕ) (plan : List (List Row)) (answer : Result (List ℕ) NamingFault) (after : List (List Row)) →
      Withdraws accepts key plan answer after → (answer ≡ (withdrawal accepts key plan).0) × (after ≡ (withdrawal accepts key plan).1)
  withdraws_only key plan answer after (refused e a f) = rw e (a, f)
  withdraws_only key plan answer after (gone keys e v a) =
      let r = visits_only v in rw e (a ∙ ap Ok r.0, r.1)

  -- the same for an answer and a plan that are those computed
  module _ (key : ℕ) (plan : List (List Row)) (answer : Result (List ℕ) NamingFault) (after : List (List Row))
      (a : answer ≡ (withdrawal accepts key plan).0) (b : after ≡ (withdrawal accepts key plan).1) where
    pub by_rules : Withdraws accepts key plan answer after
    by_rules = rw (a, b) (withdraws_gives key plan)

    pub by_rules_only : (answer' : Result (List ℕ) NamingFault) (after' : List (List Row)) → Withdraws accepts key plan answer' after' → (answer' ≡ answer) × (after' ≡ after)
    by_rules_only answer' after' w = let r = withdraws_only key plan answer' after' w in (r.0 ∙ sym a, r.1 ∙ sym b)
