-- An admission keeps what every call keeps. Assumes nothing.
use Rattle.std.proofs.Common.{◌≡◌, ℕ, ◌-◌, ◌<◌, ◌≤◌, Bool, true, false, ◌||◌, eqb, ◌⊎◌, List, [], ◌∷◌, ◌++◌, Ok, sym, refl, ap, ◌∙◌, subst, subst₂, inl, inr, ⊎_elim, add-zero, arith, eq-eqb, eqb-true}
use Rattle.std.specs.List.{ContainsAt as Has, AllByRecursion}
use Rattle.std.proofs.lemmas.List.{append-nil, map-append}
use Rattle.std.proofs.lemmas.List.Elements.{filter-append}
use Rattle.std.proofs.ByRecursion.{All-weaker, All-append, has_get_or}
use Rattle.model.specs.declared.timing.Timing.{Timing}
use Rattle.model.specs.declared.row.Kind.{Kind}
use Rattle.model.specs.declared.row.Row.{Row}
use Rattle.model.specs.declared.fault.RequestFault.{RequestFault}
use Rattle.model.specs.Row.{timings, is_tail}
use Rattle.runs.specs.Plan.{Reservation}
use Rattle.promise.specs.Layout.{Layout, layout, layout_rows, Distinct}
use Rattle.promise.specs.Meaning.{Meaning, Lawful}
use Rattle.promise.specs.Plan.{Plan, On, rows_at, rows_on, of_key, Stands}
use Rattle.promise.specs.Kept.{processors, Lies, Owned, Kept, reserved}
use Rattle.promise.proofs.Lists.{has_none, has_cases, has_here, has_there, all_one, all_from_has, has_of_kept, has_of_map, of_key_none, of_key_all, rows_on_all, rows_on_cases}
use Rattle.promise.proofs.Rows.{length_adds, rows_adds}
use Rattle.promise.proofs.Standing.{standing_adds, layout_one}
use Rattle.promise.proofs.Layouts.{layout_keys, Taken, layout_taken, layout_apart, layout_comes}
use Rattle.promise.proofs.Placing.{GoodLayout, splits_good}
use Rattle.promise.specs.Admits.{Newcomer, Admits, refused, whole, split, no_place}
use Rattle.board.specs.declared.admission.Placed.{Placed}
use Rattle.std.specs.List.{list_any}
use Rattle.board.specs.Admit.{written}
use Rattle.processor.specs.Keys.{has_key}
use Rattle.board.specs.Keys.{stands, reservations}
use Rattle.board.specs.declared.cut.Cut.{Cut}
use Rattle.board.specs.Split.{tails}

pub timings_push : (rows : List Row) (row : Row) → timings (rows ++ (row ∷ [])) ≡ timings rows ++ (row.timing ∷ [])
timings_push rows row = map-append (λ r. r.timing) rows (row ∷ [])

-- the whole row or head of a layout
abbrev layout_first : ℕ → ℕ → Timing → List Cut → Placed
layout_first k p t [] = record { processor = p; row = record { key = k; kind = Kind.Whole; timing = t } }
layout_first k p t (y ∷ cuts) = record { processor = p; row = record { key = k; kind = Kind.Head; timing = t } }

-- it stands on the plan
pub lies_first : (plan : Plan) (x : Reservation) (o : Layout) → Lies plan x o
    → (p : ℕ) × On plan p × ((row : Row) × Has (rows_at plan p) row × (row.key ≡ x.key) × (is_tail row.kind ≡ false))
lies_first plan x o h = by_cases o h.on h.shows
  where
    found : (y : Placed) (l : List Placed) → is_tail y.row.kind ≡ false → On plan y.processor → of_key x.key (rows_at plan y.processor) ≡ rows_on y.processor (y ∷ l)
        → (p : ℕ) × On plan p × ((row : Row) × Has (rows_at plan p) row × (row.key ≡ x.key) × (is_tail row.kind ≡ false))
    found y l is on e =
        let rows = rows_at plan y.processor in
        let shown : of_key x.key rows ≡ y.row ∷ rows_on y.processor l = rw (eq-eqb y.processor y.processor refl) at e in
        let kept = has_of_kept (λ row. eqb row.key x.key) rows y.row (subst (λ r. Has r y.row) (sym shown) (has_here y.row (rows_on y.processor l))) in
        (y.processor, on, (y.row, kept.0, eqb-true y.row.key x.key kept.1, is))

    by_cases : (o' : Layout) → AllByRecursion (λ y. On plan y.processor) (layout_rows x.key o') → ((p : ℕ) → On plan p → of_key x.key (rows_at plan p) ≡ rows_on p (layout_rows x.key o'))
        → (p : ℕ) × On plan p × ((row : Row) × Has (rows_at plan p) row × (row.key ≡ x.key) × (is_tail row.kind ≡ false))
    by_cases (layout p t []) on shows = found (layout_first x.key p t []) [] refl on.0 (shows p on.0)
    by_cases (layout p t (y ∷ cuts)) on shows = found (layout_first x.key p t (y ∷ cuts)) (tails x.key 1 (y ∷ cuts)) refl on.0 (shows p on.0)

pub lies_stands : (plan : Plan) (x : Reservation) (o : Layout) → Lies plan x o → Stands plan x.key
lies_stands plan x o h = let f = lies_first plan x o h in (f.0, (f.1, (f.2.0, f.2.1, f.2.2)))

-- what stands is found
any_has : {A : Type 0} (test : A → Bool) (l : List A) (y : A) → Has l y → test y ≡ true → list_any test l ≡ true
any_has test [] y h pass = absurd (has_none y h)
any_has test (x ∷ l) y h pass = ⊎_elim (λ e. ap (λ b. b || list_any test l) (ap test e ∙ pass)) (λ k. either (test x) (any_has test l y k pass)) (has_cases x l y h)
  where
    either : (b : Bool) → list_any test l ≡ true → (b || list_any test l) ≡ true
    either true e = refl
    either false e = e

stands_found : (plan : Plan) (k : ℕ) → Stands plan k → stands k plan ≡ true
stands_found plan k s =
    let row = s.1.1.0 in
    let a = s.1.0.from_one in
    let b = s.1.0.to_last in
    any_has (has_key k) plan (rows_at plan s.0) (has_get_or plan (s.0 - 1) [] (omega arith))
    (any_has (λ r. eqb r.key k) (rows_at plan s.0) row s.1.1.1 (eq-eqb row.key k s.1.1.2))

-- rows of another key, added on different processors
module _ (plan : Plan) (k : ℕ) (l : List Placed) (ons : AllByRecursion (λ y. On plan y.processor) l) (keys : AllByRecursion (λ y. y.row.key ≡ k) l) where
  pub on_back : {p : ℕ} → On (written plan l) p → On plan p
  on_back {p} h = record { from_one = h.from_one; to_last = subst (λ n. p ≤ n) (length_adds plan l) h.to_last }

  pub on_forth : {p : ℕ} → On plan p → On (written plan l) p
  on_forth {p} h = record { from_one = h.from_one; to_last = subst (λ n. p ≤ n) (sym (length_adds plan l)) h.to_last }

  pub other_key : (j p : ℕ) → (j ≡ k → ⊥) → On plan p → of_key j (rows_at (written plan l) p) ≡ of_key j (rows_at plan p)
  other_key j p apart on =
      ap (of_key j) (rows_adds plan l p ons on)
      ∙ filter-append _ (rows_at plan p) (rows_on p l)
      ∙ ap (λ r. of_key j (rows_at plan p) ++ r) (of_key_none j (rows_on p l) (rows_on_all (λ row. row.key ≡ j → ⊥) p l (All-weaker (λ y. y.row.key ≡ k) (λ y. y.row.key ≡ j → ⊥) (λ y e e'. apart (sym e' ∙ e)) l keys)))
      ∙ append-nil (of_key j (rows_at plan p))

  pub lies_still : (x : Reservation) (o : Layout) → (x.key ≡ k → ⊥) → Lies plan x o → Lies (written plan l) x o
  lies_still x o apart h = record {
    on = All-weaker (λ y. On plan y.processor) (λ y. On (written plan l) y.processor) (λ y on. on_forth on) (layout_rows x.key o) h.on;
    apart = h.apart;
    shows = λ p on. other_key x.key p apart (on_back on) ∙ h.shows p (on_back on);
    comes_to = h.comes_to;
  }

  pub new_key : (p : ℕ) → (Stands plan k → ⊥) → On plan p → of_key k (rows_at (written plan l) p) ≡ rows_on p l
  new_key p fresh on =
      ap (of_key k) (rows_adds plan l p ons on)
      ∙ filter-append _ (rows_at plan p) (rows_on p l)
      ∙ ap (λ r. r ++ of_key k (rows_on p l)) (of_key_none k (rows_at plan p) (all_from_has (λ row. row.key ≡ k → ⊥) (rows_at plan p) (λ row has e. fresh (p, (on, (row, has, e))))))
      ∙ of_key_all k (rows_on p l) (rows_on_all (λ row. row.key ≡ k) p l keys)

module _ {R : Type 0} (m : Meaning R) (law : Lawful m) (plan : Plan) (accepted : List Reservation) (kept : Kept m plan accepted) (k c d t : ℕ) where
  not_accepted : (Stands plan k → ⊥) → (x : Reservation) → Has accepted x → x.key ≡ k → ⊥
  not_accepted fresh x has e =
      let laid = all_one (λ z. (o : Layout) × Lies plan z o) accepted x kept.laid has in
      fresh (subst (Stands plan) e (lies_stands plan x laid.0 laid.1))

  -- the rows of a good layout of the newcomer, added to the plan
  pub kept_layout : (p : ℕ) (h : Timing) (cuts : List Cut) → (Stands plan k → ⊥) → reservations plan < 64 → d ≤ t
      → GoodLayout m plan t c d p h cuts → Kept m (written plan (layout_rows k (layout p h cuts))) (reserved k c d t ∷ accepted)
  kept_layout p₀ h cuts fresh room le good = record {
    judged = λ p on. judged p (on_back plan k l ons keys on);
    distinct = (λ has. let x = has_of_map (λ z. z.key) accepted k has in not_accepted fresh x.0 x.1 x.2, kept.distinct);
    laid = (
      (o, new),
      all_from_has (λ z. (q : Layout) × Lies (written plan l) z q) accepted (λ z has.
          let old = all_one (λ w. (q : Layout) × Lies plan w q) accepted z kept.laid has in
          (old.0, lies_still plan k l ons keys z old.0 (not_accepted fresh z has) old.1)),
    );
    owned = λ p on. owned p (on_back plan k l ons keys on);
    most = omega (arith, standing_adds plan l ons, layout_one k o);
  }
    where
      o : Layout
      o = layout p₀ h cuts

      l : List Placed
      l = layout_rows k o

      taken : AllByRecursion (Taken m plan t) l
      taken = layout_taken m plan t c d p₀ h k cuts good

      ons : AllByRecursion (λ y. On plan y.processor) l
      ons = All-weaker (Taken m plan t) (λ y. On plan y.processor) (λ y h. h.0) l taken

      keys : AllByRecursion (λ y. y.row.key ≡ k) l
      keys = layout_keys k o

      apart : Distinct (processors l)
      apart = layout_apart m plan t c d p₀ h k cuts good

      judged : (p : ℕ) → On plan p → m.accepts (timings (rows_at (written plan l) p)) ≡ true
      judged p on = rw (rows_adds plan l p ons on) (go (rows_on_cases p l apart))
        where
          rows : List Row
          rows = rows_at plan p

          go : (rows_on p l ≡ []) ⊎ ((y : Placed) × Has l y × (y.processor ≡ p) × (rows_on p l ≡ y.row ∷ [])) → m.accepts (timings (rows ++ rows_on p l)) ≡ true
          go (inl e) = rw (e, append-nil rows) (kept.judged p on)
          go (inr f) =
              let y = f.0 in
              let yes_with = (all_one (Taken m plan t) l y taken f.1).1 in
              rw (f.3, timings_push rows y.row) (subst (λ q. m.accepts (timings (rows_at plan q) ++ (y.row.timing ∷ [])) ≡ true) f.2 yes_with)

      new : Lies (written plan l) (reserved k c d t) o
      new = record {
        on = All-weaker (λ y. On plan y.processor) (λ y. On (written plan l) y.processor) (λ y on. on_forth plan k l ons keys on) l ons;
        apart = apart;
        shows = λ p on. new_key plan k l ons keys p fresh (on_back plan k l ons keys on);
        comes_to = layout_comes m plan t (reserved k c d t) p₀ h cuts refl le good;
      }

      owned : (p : ℕ) → On plan p → AllByRecursion (Owned (reserved k c d t ∷ accepted)) (rows_at (written plan l) p)
      owned p on = rw (rows_adds plan l p ons on)
          (All-append (Owned (reserved k c d t ∷ accepted)) (rows_at plan p) (rows_on p l)
          (All-weaker (Owned accepted) (Owned (reserved k c d t ∷ accepted)) (λ row f. record { owner = f.owner; among = has_there (reserved k c d t) accepted f.owner f.among; key = f.key }) (rows_at plan p) (kept.owned p on))
          (rows_on_all (Owned (reserved k c d t ∷ accepted)) p l (All-weaker (λ y. y.row.key ≡ k) (λ y. Owned (reserved k c d t ∷ accepted) y.row) (λ y e. record { owner = reserved k c d t; among = has_here (reserved k c d t) accepted; key = sym e }) l keys)))

  -- where no refusal applies, the key is new, there is room, and the deadline lies within the period
  fresh_key : (x : Timing) → Newcomer k c d t plan x → Stands plan k → ⊥
  fresh_key x new s = new.faultless RequestFault.Stands (stands_found plan k s)

  room_left : (x : Timing) → Newcomer k c d t plan x → reservations plan < 64
  room_left x new = let full : 64 ≤ reservations plan → ⊥ = new.faultless RequestFault.Full in omega arith

  inner : (x : Timing) → Newcomer k c d t plan x → d ≤ t
  inner x new = let over : t < d → ⊥ = new.faultless RequestFault.Period in omega arith

  pub kept_admits : (rows : List Placed) (after : Plan) → Admits m.before m.rank m.accepts m.allows plan k c d t (Ok rows) after → Kept m after (reserved k c d t ∷ accepted)
  kept_admits rows after (refused fault first e same) = absurd (let z : ◌≡◌ {A = ℕ} 0 1 = cc in omega arith)
  kept_admits rows after (no_place x new nobody none e same) = absurd (let z : ◌≡◌ {A = ℕ} 0 1 = cc in omega arith)
  kept_admits rows after (whole x p new first e same) =
      subst (λ q. Kept m q (reserved k c d t ∷ accepted)) (sym same) (kept_layout p x [] (fresh_key x new) (room_left x new) (inner x new) (record {
        on = record { from_one = first.takes.vacant.low; to_last = first.takes.vacant.high };
        yes_with = first.takes.accepted;
        alone = has_none p;
        apart = tt;
        tails = tt;
        budget = add-zero x.budget ∙ new.budget;
        deadline = add-zero x.deadline ∙ new.deadline;
        period = new.period;
      }))
  kept_admits rows after (split x rows' new nobody splits e same) =
      let r = splits_good m law plan k splits (record { apart = tt; tails = tt }) rows' refl in
      let good : GoodLayout m plan t c d r.0 r.1 r.2 =
      subst (λ q. GoodLayout m plan q c d r.0 r.1 r.2) new.period
      (subst₂ (λ a b. GoodLayout m plan x.period a b r.0 r.1 r.2) (add-zero x.budget ∙ new.budget) (add-zero x.deadline ∙ new.deadline) r.3) in
      subst (λ q. Kept m q (reserved k c d t ∷ accepted)) (sym (same ∙ ap (written plan) r.4)) (kept_layout r.0 r.1 r.2 (fresh_key x new) (room_left x new) (inner x new) good)
