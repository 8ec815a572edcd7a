-- What is promised holds along every history. Assumes nothing.
use Rattle.std.proofs.Common.{◌≡◌, ℕ, zero, suc, ◌-◌, ◌<◌, ◌≤◌, false, not, eqb, ltb, List, [], ◌∷◌, ◌++◌, length, get_or, replicate, Some, None, Ok, Err, Option, Result, sym, refl, ap, ◌∙◌, subst, subst₂, inl, arith, ltb-false, ne_eqb}
use Rattle.std.proofs.lemmas.Bool.{or_parts}
use Rattle.std.proofs.ByRecursion.{all_kept_by}
use Rattle.board.specs.Setup.{unfit}
use lib.ListN.{length-replicate}
use Rattle.std.specs.List.{AllByRecursion}
use Rattle.model.specs.declared.timing.Timing.{Timing}
use Rattle.model.specs.declared.row.Kind.{Kind}
use Rattle.model.specs.declared.row.Row.{Row}
use Rattle.model.specs.declared.fault.RequestFault.{RequestFault}
use Rattle.model.specs.declared.fault.NamingFault.{NamingFault}
use Rattle.model.specs.Scale.{scale}
use Rattle.model.specs.Row.{timings}
use Rattle.runs.specs.Plan.{Reservation}
use Rattle.board.specs.declared.admission.Placed.{Placed}
use Rattle.board.specs.Keys.{reservations}
use Rattle.board.specs.Admission.{made_rows}
use Rattle.board.specs.Split.{placed}
use Rattle.board.specs.Admit.{told}
use Rattle.board.specs.Withdraws.{Withdraws}
use Rattle.board.specs.Withdraws as rules
use Rattle.model.specs.Share.{densities}
use Rattle.store.specs.declared.fault.BufferFault.{BufferFault}
use Rattle.store.specs.declared.entry.Entry.{Entry}
use Rattle.store.specs.Answers.{answered}
use Rattle.store.specs.Entries.{entries}
use Rattle.store.specs.Load.{Loaded, Taken as Read, plan_fault, replaced}
use Rattle.board.specs.declared.cut.Cut.{Cut}
use Rattle.board.proofs.Timed.{made}
use Rattle.promise.specs.declared.call.Call.{Call}
use Rattle.promise.specs.declared.call.Answer.{Answer}
use Rattle.promise.specs.Meaning.{Meaning, Lawful}
use Rattle.promise.specs.Plan.{Plan, On}
use Rattle.promise.specs.Choosing.{rows_at, Takes, FirstTaker}
use Rattle.promise.specs.Admits.{Admits, refused, whole, split, no_place, Splits, ended, headed, further, Applies}
use Rattle.promise.specs.Kept.{Kept}
use Rattle.promise.specs.History.{Derived, History, begins, goes_on, accepted_next, accepted_after}
use Rattle.promise.specs.Promise.{NoPlace, FirstInRank, Along, Promised, Shown}
use Rattle.promise.proofs.Rows.{length_adds}
use Rattle.promise.proofs.Placing.{none_dense}
use Rattle.promise.proofs.Admitting.{kept_admits}
use Rattle.promise.proofs.Gathering.{kept_withdraws}
use Rattle.promise.proofs.Timely.{kept_never_late}
use Rattle.promise.proofs.Loading.{kept_loads, keyed_loads}
use Rattle.promise.proofs.Storing.{kept_storable}
use Rattle.store.proofs.Stored.{sayable_loads, sayable_only}

-- one call more at the end
pub history_push : {R : Type 0} {m : Meaning R} {plan last next : Plan} {calls : List Call} {answers : List Answer} (call : Call) (answer : Answer)
    → History m plan calls answers last → Derived m last call answer next → History m plan (calls ++ (call ∷ [])) (answers ++ (answer ∷ [])) next
history_push call answer begins d = goes_on d begins
history_push call answer (goes_on e rest) d = goes_on e (history_push call answer rest d)

-- an empty board has no rows
pub empty_rows : (k i : ℕ) → get_or {A = List Row} (replicate k []) i [] ≡ []
empty_rows zero i = refl
empty_rows (suc k) zero = refl
empty_rows (suc k) (suc i) = empty_rows k i

-- and keeps the invariant, for nobody
pub kept_empty : {R : Type 0} (m : Meaning R) → Lawful m → (n : ℕ) → Kept m (replicate n []) []
kept_empty m law n = record {
  judged = λ p on. rw (empty_rows n (p - 1)) (law.dense [] (omega arith) (omega arith));
  distinct = tt;
  laid = tt;
  owned = λ p on. rw (empty_rows n (p - 1)) tt;
  most = omega (arith, none n);
}
  where
    none : (k : ℕ) → reservations (replicate k []) ≡ 0
    none zero = refl
    none (suc k) = omega (arith, none k)

-- a count that is not unfit is 1 to 8
pub fit : (n : ℕ) → unfit n ≡ false → (1 ≤ n) × (n ≤ 8)
fit n e = let both = or_parts (ltb n 1) (ltb 8 n) e in (ltb-false n 1 both.0, ltb-false 8 n both.1)

-- look shows a plan
pub shown : (plan : Plan) → Shown plan
shown plan p i rows row at there =
    let a : suc p - 1 ≡ p = omega arith in
    let b : suc i - 1 ≡ i = omega arith in
    rw (ne_eqb (suc p) 0 (λ (z : suc p ≡ 0). omega arith), a, at, ne_eqb (suc i) 0 (λ (z : suc i ≡ 0). omega arith), b, there) refl

module _ {R : Type 0} (m : Meaning R) (law : Lawful m) where
  -- a refused admission leaves the plan
  pub err_same : (plan : Plan) (k c d t : ℕ) (f : RequestFault) (next : Plan) → Admits m.before m.rank m.accepts m.allows plan k c d t (Err f) next → next ≡ plan
  err_same plan k c d t f next (refused fault first e same) = same
  err_same plan k c d t f next (no_place x new nobody none e same) = same
  err_same plan k c d t f next (whole x p new first e same) = absurd (let z : ◌≡◌ {A = ℕ} 0 1 = cc in omega arith)
  err_same plan k c d t f next (split x rows new nobody splits e same) = absurd (let z : ◌≡◌ {A = ℕ} 0 1 = cc in omega arith)

  ok_written : (plan : Plan) (k c d t : ℕ) (rows : List Placed) (next : Plan) → Admits m.before m.rank m.accepts m.allows plan k c d t (Ok rows) next → length next ≡ length plan
  ok_written plan k c d t rows next (refused fault first e same) = ap length same
  ok_written plan k c d t rows next (no_place x new nobody none e same) = ap length same
  ok_written plan k c d t rows next (whole x p new first e same) = ap length same ∙ length_adds plan (placed k p Kind.Whole x ∷ [])
  ok_written plan k c d t rows next (split x rows' new nobody splits e same) = ap length same ∙ length_adds plan rows'

  gone_same : (plan : Plan) (k : ℕ) (f : NamingFault) (next : Plan) → Withdraws m.accepts k plan (Err f) next → next ≡ plan
  gone_same plan k f next (rules.refused e answer same) = same
  gone_same plan k f next (rules.gone keys known visits answer) = absurd (let z : ◌≡◌ {A = ℕ} 0 1 = cc in omega arith)

  -- a refused load leaves the plan
  by_rows : (fault : Option BufferFault) (f : BufferFault) (plan rows next : Plan) → Err f ≡ answered fault → next ≡ replaced fault plan rows → next ≡ plan
  by_rows (Some g) f plan rows next e same = same
  by_rows None f plan rows next e same = absurd (let z : ◌≡◌ {A = ℕ} 0 1 = cc in omega arith)

  by_format : (stored : Result (List (List Entry)) BufferFault) (f : BufferFault) (plan next : Plan) → Read m.accepts stored plan (Err f) next → next ≡ plan
  by_format (Err g) f plan next h = h.1
  by_format (Ok stored) f plan next h = by_rows (plan_fault m.accepts h.0) f plan h.0 next h.2 h.3

  refused_load : (plan : Plan) (bytes : List ℕ) (f : BufferFault) (next : Plan) → Loaded m.accepts bytes plan (Err f) next → next ≡ plan
  refused_load plan bytes f next h = by_format (entries (length plan) bytes) f plan next h

  -- every call keeps the invariant, for the reservations that are then accepted
  kept_derived : (plan : Plan) (accepted : List Reservation) (call : Call) (answer : Answer) (next : Plan) → 1 ≤ length plan → Kept m plan accepted → Derived m plan call answer next
      → Kept m next (accepted_next accepted call answer) × (length next ≡ length plan)
  kept_derived plan accepted (Call.Admit w) (Answer.Admitted (Ok a)) next some kept h =
      (kept_admits m law plan accepted kept w.key w.budget w.deadline w.period (made_rows a) next h, ok_written plan w.key w.budget w.deadline w.period (made_rows a) next h)
  kept_derived plan accepted (Call.Admit w) (Answer.Admitted (Err f)) next some kept h =
      let same = err_same plan w.key w.budget w.deadline w.period f next h in (subst (λ q. Kept m q accepted) (sym same) kept, ap length same)
  kept_derived plan accepted (Call.Admit w) (Answer.Withdrawn r) next some kept h = absurd h
  kept_derived plan accepted (Call.Admit w) (Answer.Loaded r) next some kept h = absurd h
  kept_derived plan accepted (Call.Withdraw k) (Answer.Admitted r) next some kept h = absurd h
  kept_derived plan accepted (Call.Withdraw k) (Answer.Withdrawn (Ok g)) next some kept h = kept_withdraws m law plan accepted k _ next kept h
  kept_derived plan accepted (Call.Withdraw k) (Answer.Withdrawn (Err f)) next some kept h =
      let same = gone_same plan k f next h in (subst (λ q. Kept m q accepted) (sym same) kept, ap length same)
  kept_derived plan accepted (Call.Withdraw k) (Answer.Loaded r) next some kept h = absurd h
  kept_derived plan accepted (Call.Load image) (Answer.Admitted r) next some kept h = absurd h
  kept_derived plan accepted (Call.Load image) (Answer.Withdrawn r) next some kept h = absurd h
  kept_derived plan accepted (Call.Load image) (Answer.Loaded (Ok done)) next some kept h = kept_loads m image.now plan next h.1
  kept_derived plan accepted (Call.Load image) (Answer.Loaded (Err f)) next some kept h =
      let same = refused_load plan image.now f next h.1 in (subst (λ q. Kept m q accepted) (sym same) kept, ap length same)

  -- and the keys of accepted reservations are not 0
  admitted_key : (plan : Plan) (k c d t : ℕ) (rows : List Placed) (next : Plan) → Admits m.before m.rank m.accepts m.allows plan k c d t (Ok rows) next → 1 ≤ k
  admitted_key plan k c d t rows next (refused fault first e same) = absurd (let z : ◌≡◌ {A = ℕ} 0 1 = cc in omega arith)
  admitted_key plan k c d t rows next (no_place x new nobody none e same) = absurd (let z : ◌≡◌ {A = ℕ} 0 1 = cc in omega arith)
  admitted_key plan k c d t rows next (whole x p new first e same) = let low : k < 1 → ⊥ = λ h. new.faultless RequestFault.Key (inl h) in omega arith
  admitted_key plan k c d t rows next (split x rows' new nobody splits e same) = let low : k < 1 → ⊥ = λ h. new.faultless RequestFault.Key (inl h) in omega arith

  keyed_derived : (plan : Plan) (accepted : List Reservation) (call : Call) (answer : Answer) (next : Plan) → AllByRecursion (λ x. 1 ≤ x.key) accepted → Derived m plan call answer next
      → AllByRecursion (λ x. 1 ≤ x.key) (accepted_next accepted call answer)
  keyed_derived plan accepted (Call.Admit w) (Answer.Admitted (Ok a)) next keyed h = (admitted_key plan w.key w.budget w.deadline w.period (made_rows a) next h, keyed)
  keyed_derived plan accepted (Call.Admit w) (Answer.Admitted (Err f)) next keyed h = keyed
  keyed_derived plan accepted (Call.Admit w) (Answer.Withdrawn r) next keyed h = absurd h
  keyed_derived plan accepted (Call.Admit w) (Answer.Loaded r) next keyed h = absurd h
  keyed_derived plan accepted (Call.Withdraw k) (Answer.Admitted r) next keyed h = absurd h
  keyed_derived plan accepted (Call.Withdraw k) (Answer.Withdrawn (Ok g)) next keyed h = all_kept_by (λ x. not (eqb x.key k)) (λ x. 1 ≤ x.key) accepted keyed
  keyed_derived plan accepted (Call.Withdraw k) (Answer.Withdrawn (Err f)) next keyed h = keyed
  keyed_derived plan accepted (Call.Withdraw k) (Answer.Loaded r) next keyed h = absurd h
  keyed_derived plan accepted (Call.Load image) (Answer.Admitted r) next keyed h = absurd h
  keyed_derived plan accepted (Call.Load image) (Answer.Withdrawn r) next keyed h = absurd h
  keyed_derived plan accepted (Call.Load image) (Answer.Loaded (Ok done)) next keyed h =
      keyed_loads m.accepts image.now plan next h.1
  keyed_derived plan accepted (Call.Load image) (Answer.Loaded (Err f)) next keyed h = keyed

  -- what every history keeps
  record Keeps (plan last : Plan) (accepted : List Reservation) : Type 0 where
    kept : Kept m last accepted
    count : length last ≡ length plan
    keyed : AllByRecursion (λ x. 1 ≤ x.key) accepted

  kept_history : {plan last : Plan} {calls : List Call} {answers : List Answer} → History m plan calls answers last → (accepted : List Reservation) → 1 ≤ length plan
      → Kept m plan accepted → AllByRecursion (λ x. 1 ≤ x.key) accepted → Keeps plan last (accepted_after accepted calls answers)
  kept_history begins accepted some kept keyed = record { kept = kept; count = refl; keyed = keyed }
  kept_history (goes_on {plan = plan} {next = next} {call = call} {answer = answer} d rest) accepted some kept keyed =
      let step = kept_derived plan accepted call answer next some kept d in
      let later = kept_history rest (accepted_next accepted call answer) (omega (arith, step.1)) step.0 (keyed_derived plan accepted call answer next keyed d) in
      record { kept = later.kept; count = later.count ∙ step.1; keyed = later.keyed }

  -- the board keeps its processors
  pub history_count : (n : ℕ) (calls : List Call) (answers : List Answer) (last : Plan) → unfit n ≡ false → History m (replicate n []) calls answers last → length last ≡ n
  history_count n calls answers last set h =
      let none = length-replicate {A = List Row} n [] in
      (kept_history h [] (omega (arith, none, (fit n set).0)) (kept_empty m law n) tt).count ∙ none

  -- the two promises on single calls
  dense_if : (k c d t : ℕ) (plan : Plan) (answer : Result (List Placed) RequestFault) (next : Plan) → Admits m.before m.rank m.accepts m.allows plan k c d t answer next
      → answer ≡ Err RequestFault.NoPlace → (x : Timing) → x.budget ≡ c → x.deadline ≡ d → x.period ≡ t
      → (p : ℕ) → On plan p → length (rows_at plan p) < 32 → scale < densities scale (timings (rows_at plan p) ++ (x ∷ []))
  dense_if k c d t plan answer next (refused fault first e same) is x a b f =
      let wrong : fault ≡ RequestFault.NoPlace = cc in absurd (subst (Applies k c d t plan) wrong first.applies)
  dense_if k c d t plan answer next (whole y q new first e same) is x a b f = absurd (let z : ◌≡◌ {A = ℕ} 0 1 = cc in omega arith)
  dense_if k c d t plan answer next (split y rows new nobody splits e same) is x a b f = absurd (let z : ◌≡◌ {A = ℕ} 0 1 = cc in omega arith)
  dense_if k c d t plan answer next (no_place y new nobody none e same) is x a b f =
      let one : Some y ≡ Some x = made y c d t new.budget new.deadline new.period ∙ sym (made x c d t a b f) in
      let alike : y ≡ x = cc in
      none_dense m law plan k x (subst (λ z. (q : ℕ) → Takes m.accepts plan [] z q → ⊥) alike nobody)

  -- the first row of a split is a head
  split_head : (k : ℕ) (plan : Plan) {cuts : List Cut} {x : Timing} {o : Option (List Placed)} → Splits m.before m.rank m.accepts m.allows plan k cuts x o
      → (y : Placed) (l : List Placed) → o ≡ Some (y ∷ l) → y.row.kind ≡ Kind.Head
  split_head k plan (ended none) y l e = absurd (let z : ◌≡◌ {A = ℕ} 0 1 = cc in omega arith)
  split_head k plan (headed grown head p s first is) y l e = let same : placed k p Kind.Head head ≡ y = cc in ap (λ w. w.row.kind) (sym same)
  split_head k plan (further grown head s nobody rest) y l e = split_head k plan rest y l e

  first_if : (k c d t : ℕ) (plan : Plan) (answer : Result (List Placed) RequestFault) (next : Plan) → Admits m.before m.rank m.accepts m.allows plan k c d t answer next
      → (p : ℕ) (x : Timing) → answer ≡ Ok (placed k p Kind.Whole x ∷ []) → ((x.budget ≡ c) × (x.deadline ≡ d) × (x.period ≡ t)) × FirstTaker m.before m.rank m.accepts plan [] x p
  first_if k c d t plan answer next (refused fault first e same) p x is = absurd (let z : ◌≡◌ {A = ℕ} 0 1 = cc in omega arith)
  first_if k c d t plan answer next (no_place y new nobody none e same) p x is = absurd (let z : ◌≡◌ {A = ℕ} 0 1 = cc in omega arith)
  first_if k c d t plan answer next (whole y q new first e same) p x is =
      let one : placed k q Kind.Whole y ≡ placed k p Kind.Whole x = cc in
      subst₂ (λ a z. ((z.budget ≡ c) × (z.deadline ≡ d) × (z.period ≡ t)) × FirstTaker m.before m.rank m.accepts plan [] z a)
      (ap (λ w. w.processor) one) (ap (λ w. w.row.timing) one) ((new.budget, new.deadline, new.period), first)
  first_if k c d t plan answer next (split y rows new nobody splits e same) p x is =
      let own : rows ≡ placed k p Kind.Whole x ∷ [] = cc in
      let head : Kind.Whole ≡ Kind.Head = split_head k plan splits (placed k p Kind.Whole x) [] (ap Some own) in
      absurd (let z : ◌≡◌ {A = ℕ} 0 1 = cc in omega arith)

  no_place_step : (plan : Plan) (call : Call) (answer : Answer) (next : Plan) → Derived m plan call answer next → NoPlace plan call answer
  no_place_step plan (Call.Admit w) (Answer.Admitted r) next h = λ e x a b f p on free. dense_if w.key w.budget w.deadline w.period plan (told r) next h e x a b f p on free
  no_place_step plan (Call.Admit w) (Answer.Withdrawn r) next h = tt
  no_place_step plan (Call.Admit w) (Answer.Loaded r) next h = tt
  no_place_step plan (Call.Withdraw k) answer next h = tt
  no_place_step plan (Call.Load image) answer next h = tt

  first_step : (plan : Plan) (call : Call) (answer : Answer) (next : Plan) → Derived m plan call answer next → FirstInRank m plan call answer
  first_step plan (Call.Admit w) (Answer.Admitted r) next h = λ p x e. first_if w.key w.budget w.deadline w.period plan (told r) next h p x e
  first_step plan (Call.Admit w) (Answer.Withdrawn r) next h = tt
  first_step plan (Call.Admit w) (Answer.Loaded r) next h = tt
  first_step plan (Call.Withdraw k) answer next h = tt
  first_step plan (Call.Load image) answer next h = tt

  along : (P : Plan → Call → Answer → Type 0) → ((plan : Plan) (call : Call) (answer : Answer) (next : Plan) → Derived m plan call answer next → P plan call answer)
      → {plan last : Plan} {calls : List Call} {answers : List Answer} (h : History m plan calls answers last) → Along P h
  along P step begins = tt
  along P step (goes_on {plan = plan} {next = next} {call = call} {answer = answer} d rest) = (step plan call answer next d, along P step rest)

  pub promised : (n : ℕ) (calls : List Call) (answers : List Answer) (last : Plan) → unfit n ≡ false → History m (replicate n []) calls answers last → Promised m n calls answers last
  promised n calls answers last set h =
      let size = fit n set in
      let none = length-replicate {A = List Row} n [] in
      let all = kept_history h [] (omega (arith, none, size.0)) (kept_empty m law n) tt in
      let storable = kept_storable m law last (accepted_after [] calls answers) all.kept (omega (arith, none, size.1, all.count)) all.keyed in
      record {
        history = h;
        never_late = kept_never_late m law last (accepted_after [] calls answers) all.kept;
        no_place = along NoPlace no_place_step h;
        first_in_rank = along (FirstInRank m) first_step h;
        kept = all.kept;
        stored = record {
          loads = λ before same. sayable_loads m.accepts last before storable same;
          only = λ before after answer same. sayable_only m.accepts last before storable same answer after;
        };
        shown = shown last;
      }
