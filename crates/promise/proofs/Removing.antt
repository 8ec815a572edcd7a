-- Taking the rows of a reservation away keeps what every call keeps. Assumes nothing.
use Rattle.std.proofs.Common.{◌≡◌, ℕ, zero, suc, ◌+◌, ◌<◌, ◌≤◌, Bool, true, false, cond, not, eqb, ◌⊎◌, List, [], ◌∷◌, map, length, get_or, filter, sym, refl, ap, ◌∙◌, subst, inl, inr, ⊎_elim, arith, eq-eqb, ne_eqb, eqb-true}
use mathlib.Core.Bool.{false≢true}
use lib.ListN.{length-map}
use Rattle.std.specs.List.{ContainsAt as Has}
use Rattle.std.proofs.ByRecursion.{All-weaker}
use Rattle.model.specs.declared.row.Row.{Row}
use Rattle.model.specs.Row.{timings, is_tail}
use Rattle.model.specs.Within.{Within, none, keep, skip}
use Rattle.runs.specs.Plan.{Reservation}
use Rattle.promise.specs.Layout.{Layout, layout_rows, Distinct}
use Rattle.promise.specs.Meaning.{Meaning, Lawful}
use Rattle.promise.specs.Plan.{Plan, On, rows_at, of_key, Stands}
use Rattle.promise.specs.Kept.{Lies, Owned, Kept, dropped}
use Rattle.promise.proofs.Lists.{has_none, has_cases, all_one, all_from_has, has_kept, has_of_kept, has_map, has_of_map}
use Rattle.promise.proofs.Rows.{rows_removed}
use Rattle.promise.proofs.Standing.{one}
use Rattle.processor.specs.Gathering.{others}
use Rattle.board.specs.Withdraw.{without}
use Rattle.processor.specs.Keys.{owners}
use Rattle.board.specs.Keys.{reservations}

-- what a filter keeps lies within the list
pub within_kept : (test : Row → Bool) (rows : List Row) → Within (timings (filter test rows)) (timings rows)
within_kept test [] = none
within_kept test (row ∷ rows) = go (test row) (within_kept test rows)
  where
    go : (b : Bool) → Within (timings (filter test rows)) (timings rows) → Within (timings (cond b (row ∷ filter test rows) (filter test rows))) (timings (row ∷ rows))
    go true rest = keep rest
    go false rest = skip rest

-- a test that fails one of two keys
not_key : (a k : ℕ) → not (eqb a k) ≡ true → a ≡ k → ⊥
not_key a k h e = false≢true (sym (ap not (eq-eqb a k e)) ∙ h)

is_other : (a k : ℕ) → (a ≡ k → ⊥) → not (eqb a k) ≡ true
is_other a k apart = ap not (ne_eqb a k apart)

-- the rows of another key stay
pub of_key_without : (j k : ℕ) (rows : List Row) → (j ≡ k → ⊥) → of_key j (others k rows) ≡ of_key j rows
of_key_without j k [] apart = refl
of_key_without j k (row ∷ rows) apart = go (eqb row.key k) refl (of_key_without j k rows apart)
  where
    go : (b : Bool) → eqb row.key k ≡ b → of_key j (others k rows) ≡ of_key j rows
        → of_key j (cond (not b) (row ∷ others k rows) (others k rows)) ≡ cond (eqb row.key j) (row ∷ of_key j rows) (of_key j rows)
    go true e rest = rw (ne_eqb row.key j (λ e'. apart (sym e' ∙ eqb-true row.key k e))) rest
    go false e rest = ap (λ l. cond (eqb row.key j) (row ∷ l) l) rest

-- those of the key go
pub removed_gone : (k : ℕ) (plan : Plan) → Stands (without k plan) k → ⊥
removed_gone k plan h =
    let on : On plan h.0 = record { from_one = h.1.0.from_one; to_last = subst (λ n. h.0 ≤ n) (length-map plan (others k)) h.1.0.to_last } in
    let row = h.1.1.0 in
    let has = subst (λ l. Has l row) (rows_removed k plan h.0 on) h.1.1.1 in
    not_key row.key k (has_of_kept (λ r. not (eqb r.key k)) (rows_at plan h.0) row has).1 h.1.1.2

-- fewer rows have fewer owners
owners_rest : (k : ℕ) (row : Row) (rows : List Row) → owners (others k (row ∷ rows)) ≤ one row + owners (others k rows)
owners_rest k row rows = go (not (eqb row.key k))
  where
    go : (b : Bool) → owners (cond b (row ∷ others k rows) (others k rows)) ≤ one row + owners (others k rows)
    go true = omega arith
    go false = omega arith

owners_without : (k : ℕ) (rows : List Row) → owners (others k rows) ≤ owners rows
owners_without k [] = omega arith
owners_without k (row ∷ rows) = omega (arith, owners_rest k row rows, owners_without k rows)

owners_less : (k : ℕ) (rows : List Row) (row : Row) → Has rows row → row.key ≡ k → is_tail row.kind ≡ false → owners (others k rows) < owners rows
owners_less k [] row has e f = absurd (has_none row has)
owners_less k (r ∷ rows) row has e f =
    ⊎_elim here (λ later. omega (arith, owners_rest k r rows, owners_less k rows row later e f)) (has_cases r rows row has)
  where
    here : r ≡ row → owners (others k (r ∷ rows)) < owners (r ∷ rows)
    here same =
        let own : eqb r.key k ≡ true = eq-eqb r.key k (ap (λ z. z.key) same ∙ e) in
        let is : is_tail r.kind ≡ false = ap (λ z. is_tail z.kind) same ∙ f in
        rw (own, is) (omega (arith, owners_without k rows))

pub standing_removed : (k : ℕ) (plan : Plan) → reservations (without k plan) ≤ reservations plan
standing_removed k [] = omega arith
standing_removed k (rows ∷ plan) = omega (arith, owners_without k rows, standing_removed k plan)

pub standing_less : (k i : ℕ) (plan : Plan) (row : Row) → i < length plan → Has (get_or plan i []) row → row.key ≡ k → is_tail row.kind ≡ false → reservations (without k plan) < reservations plan
standing_less k i [] row lt has e f = absurd (omega arith)
standing_less k zero (rows ∷ plan) row lt has e f = omega (arith, owners_less k rows row has e f, standing_removed k plan)
standing_less k (suc i) (rows ∷ plan) row lt has e f = omega (arith, owners_without k rows, standing_less k i plan row (omega arith) has e f)

-- lists of reservations with different keys
distinct_kept : (test : Reservation → Bool) (l : List Reservation) → Distinct (map (λ x. x.key) l) → Distinct (map (λ x. x.key) (filter test l))
distinct_kept test [] apart = tt
distinct_kept test (x ∷ l) apart = go (test x) (distinct_kept test l apart.1)
  where
    go : (b : Bool) → Distinct (map (λ z. z.key) (filter test l)) → Distinct (map (λ z. z.key) (cond b (x ∷ filter test l) (filter test l)))
    go true rest = (
      λ has. let z = has_of_map (λ w. w.key) (filter test l) x.key has in
          apart.0 (subst (Has (map (λ w. w.key) l)) z.2 (has_map (λ w. w.key) l z.0 (has_of_kept test l z.0 z.1).0)),
      rest,
    )
    go false rest = rest

pub same_key : (l : List Reservation) (x z : Reservation) → Distinct (map (λ w. w.key) l) → Has l x → Has l z → x.key ≡ z.key → x ≡ z
same_key [] x z apart has has' e = absurd (has_none x has)
same_key (w ∷ l) x z apart has has' e = go (has_cases w l x has) (has_cases w l z has') (λ a b. same_key l x z apart.1 a b e)
  where
    go : (w ≡ x) ⊎ Has l x → (w ≡ z) ⊎ Has l z → (Has l x → Has l z → x ≡ z) → x ≡ z
    go (inl a) (inl b) rest = sym a ∙ b
    go (inl a) (inr b) rest = absurd (apart.0 (subst (Has (map (λ v. v.key) l)) (sym e ∙ ap (λ v. v.key) (sym a)) (has_map (λ v. v.key) l z b)))
    go (inr a) (inl b) rest = absurd (apart.0 (subst (Has (map (λ v. v.key) l)) (e ∙ ap (λ v. v.key) (sym b)) (has_map (λ v. v.key) l x a)))
    go (inr a) (inr b) rest = rest a b

module _ {R : Type 0} (m : Meaning R) (law : Lawful m) (plan : Plan) (accepted : List Reservation) (kept : Kept m plan accepted) where
  module _ (k : ℕ) where
    pub on_back : {p : ℕ} → On (without k plan) p → On plan p
    on_back {p} h = record { from_one = h.from_one; to_last = subst (λ n. p ≤ n) (length-map plan (others k)) h.to_last }

    pub on_forth : {p : ℕ} → On plan p → On (without k plan) p
    on_forth {p} h = record { from_one = h.from_one; to_last = subst (λ n. p ≤ n) (sym (length-map plan (others k))) h.to_last }

    lies_still : (x : Reservation) (o : Layout) → (x.key ≡ k → ⊥) → Lies plan x o → Lies (without k plan) x o
    lies_still x o apart h = record {
      on = All-weaker (λ y. On plan y.processor) (λ y. On (without k plan) y.processor) (λ y on. on_forth on) (layout_rows x.key o) h.on;
      apart = h.apart;
      shows = λ p on. ap (of_key x.key) (rows_removed k plan p (on_back on)) ∙ of_key_without x.key k (rows_at plan p) apart ∙ h.shows p (on_back on);
      comes_to = h.comes_to;
    }

    pub kept_removed : Kept m (without k plan) (dropped k accepted)
    kept_removed = record {
      judged = λ p on. rw (rows_removed k plan p (on_back on)) (law.fewer (timings (others k (rows_at plan p))) (timings (rows_at plan p)) (within_kept (λ r. not (eqb r.key k)) (rows_at plan p)) (kept.judged p (on_back on)));
      distinct = distinct_kept (λ x. not (eqb x.key k)) accepted kept.distinct;
      laid = all_from_has (λ x. (o : Layout) × Lies (without k plan) x o) (dropped k accepted) (λ x has.
          let was = has_of_kept (λ z. not (eqb z.key k)) accepted x has in
          let old = all_one (λ z. (o : Layout) × Lies plan z o) accepted x kept.laid was.0 in
          (old.0, lies_still x old.0 (not_key x.key k was.1) old.1));
      owned = λ p on. rw (rows_removed k plan p (on_back on)) (all_from_has (Owned (dropped k accepted)) (others k (rows_at plan p)) (λ row has.
          let was = has_of_kept (λ r. not (eqb r.key k)) (rows_at plan p) row has in
          let own = all_one (Owned accepted) (rows_at plan p) row (kept.owned p (on_back on)) was.0 in
          record {
            owner = own.owner;
            among = has_kept (λ z. not (eqb z.key k)) accepted own.owner own.among (is_other own.owner.key k (λ e. not_key row.key k was.1 (sym own.key ∙ e)));
            key = own.key;
          }));
      most = omega (arith, standing_removed k plan, kept.most);
    }

  -- only who is accepted counts, not the order
  pub kept_same : (others : List Reservation) → Distinct (map (λ x. x.key) others) → ((x : Reservation) → Has accepted x → Has others x) → ((x : Reservation) → Has others x → Has accepted x) → Kept m plan others
  kept_same others apart forth back = record {
    judged = kept.judged;
    distinct = apart;
    laid = all_from_has (λ x. (o : Layout) × Lies plan x o) others (λ x has. all_one (λ z. (o : Layout) × Lies plan z o) accepted x kept.laid (back x has));
    owned = λ p on. All-weaker (Owned accepted) (Owned others) (λ row own. record { owner = own.owner; among = forth own.owner own.among; key = own.key }) (rows_at plan p) (kept.owned p on);
    most = kept.most;
  }
