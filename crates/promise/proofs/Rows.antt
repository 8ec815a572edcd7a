-- What adding and removing rows leaves on each processor. Assumes nothing.
use Rattle.std.proofs.Common.{◌≡◌, ℕ, ◌-◌, Bool, true, false, cond, eqb, ◌≢◌, List, [], ◌∷◌, ◌++◌, length, sym, refl, ap, ◌∙◌, subst, append_assoc, arith, length-set, get_or-set_other, get_or-set_same, eqb-true}
use borrow.Author.Tests.{eqb-false}
use Rattle.std.specs.List.{AllByRecursion}
use Rattle.std.proofs.lemmas.List.{get_or-map, append-nil}
use Rattle.std.proofs.ByRecursion.{All-weaker}
use Rattle.promise.specs.Plan.{Plan, On, rows_at, add, rows_on}
use Rattle.board.specs.declared.admission.Placed.{Placed}
use Rattle.board.specs.Admit.{written}
use Rattle.processor.specs.Gathering.{others}
use Rattle.board.specs.Withdraw.{without}

-- adding keeps the processors
pub length_add : (plan : Plan) (x : Placed) → length (add plan x) ≡ length plan
length_add plan x = length-set plan (x.processor - 1) (rows_at plan x.processor ++ (x.row ∷ []))

pub on_add : {plan : Plan} {p : ℕ} (x : Placed) → On plan p → On (add plan x) p
on_add {plan} x h = record { from_one = h.from_one; to_last = rw length_add h.to_last }

pub rows_add_same : (plan : Plan) (x : Placed) → On plan x.processor → rows_at (add plan x) x.processor ≡ rows_at plan x.processor ++ (x.row ∷ [])
rows_add_same plan x on = get_or-set_same plan (x.processor - 1) (rows_at plan x.processor ++ (x.row ∷ [])) [] (let a = on.from_one in let b = on.to_last in omega arith)

pub rows_add_other : (plan : Plan) (x : Placed) (p : ℕ) → On plan x.processor → On plan p → p ≢ x.processor → rows_at (add plan x) p ≡ rows_at plan p
rows_add_other plan x p on on' apart =
    get_or-set_other plan (x.processor - 1) (p - 1) (rows_at plan x.processor ++ (x.row ∷ [])) [] (let a = on.from_one in let b = on'.from_one in omega arith)

-- each processor gets just the rows that are placed on it
pub rows_adds : (plan : Plan) (l : List Placed) (p : ℕ) → AllByRecursion (λ x. On plan x.processor) l → On plan p → rows_at (written plan l) p ≡ rows_at plan p ++ rows_on p l
rows_adds plan [] p ons on = sym (append-nil (rows_at plan p))
rows_adds plan (x ∷ l) p ons on =
    rows_adds (add plan x) l p (All-weaker (λ y. On plan y.processor) (λ y. On (add plan x) y.processor) (λ y h. on_add x h) l ons.1) (on_add x on)
    ∙ step (eqb x.processor p) refl
  where
    step : (b : Bool) → eqb x.processor p ≡ b → rows_at (add plan x) p ++ rows_on p l ≡ rows_at plan p ++ cond b (x.row ∷ rows_on p l) (rows_on p l)
    step true e =
        let same : x.processor ≡ p = eqb-true x.processor p e in
        let here : rows_at (add plan x) p ≡ rows_at plan p ++ (x.row ∷ []) =
        subst (λ q. rows_at (add plan x) q ≡ rows_at plan q ++ (x.row ∷ [])) same (rows_add_same plan x ons.0) in
        ap (λ r. r ++ rows_on p l) here ∙ append_assoc (rows_at plan p) (x.row ∷ []) (rows_on p l)
    step false e = ap (λ r. r ++ rows_on p l) (rows_add_other plan x p ons.0 on (λ same. eqb-false x.processor p e (sym same)))

pub length_adds : (plan : Plan) (l : List Placed) → length (written plan l) ≡ length plan
length_adds plan [] = refl
length_adds plan (x ∷ l) = length_adds (add plan x) l ∙ length_add plan x

pub rows_removed : (k : ℕ) (plan : Plan) (p : ℕ) → On plan p → rows_at (without k plan) p ≡ others k (rows_at plan p)
rows_removed k plan p on = get_or-map (others k) plan (p - 1) [] [] (let a = on.from_one in let b = on.to_last in omega arith)
