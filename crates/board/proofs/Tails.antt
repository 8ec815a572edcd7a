-- The longest tail, processor by processor, and the tail that is set. Assumes nothing.
use Rattle.std.proofs.Common.{◌≡◌, ℕ, ◌+◌, ◌-◌, ◌<◌, ◌≤◌, Bool, true, false, cond, ltb, List, [], length, get_or, drop, Some, None, sym, ap, ◌∙◌, arith, ne_eqb}
use Rattle.std.proofs.lemmas.List.{at_drop_more}
use Rattle.model.specs.declared.timing.Timing.{Timing}
use Rattle.model.specs.declared.row.Row.{Row}
use Rattle.board.specs.Timed.{timed}
use Rattle.board.specs.Tail.{longer, longest, cut_on, cut_off}
use Rattle.board.proofs.Timed.{made}

pub longer_within : (p b c : ℕ) (best : ℕ × ℕ) → b ≤ c → best.1 ≤ c → (longer p b best).1 ≤ c
longer_within p b c best h k = go (ltb best.1 b)
  where
    go : (t : Bool) → (cond t (p, b) best).1 ≤ c
    go true = h
    go false = k

pub longest_more :
    (offer : ℕ → List Row → ℕ) (plan : List (List Row)) (i b : ℕ) (best next total : ℕ × ℕ) → i < length plan →
    b ≡ offer (i + 1) (get_or plan i []) → longer (i + 1) b best ≡ next → longest offer (i + 1) (drop i plan) best ≡ total →
    longest offer (i + 1 + 1) (drop (i + 1) plan) next ≡ total
longest_more offer plan i b best next total h same step so =
    ap (longest offer (i + 1 + 1) (drop (i + 1) plan)) (sym step ∙ ap (λ n. longer (i + 1) n best) same)
    ∙ sym (at_drop_more (λ l. longest offer (i + 1) l best) plan i [] h)
    ∙ so

-- the tail and the head of these numbers are what is cut off and what is left
pub cut_made :
    (x : Timing) (p b : ℕ) (tail head : Timing) → 0 < b →
    tail.budget ≡ b → tail.deadline ≡ b → tail.period ≡ x.period →
    head.budget ≡ x.budget - b → head.deadline ≡ x.deadline - b → head.period ≡ x.period →
    cut_off x p b ≡ Some (record { processor = p; timing = tail }, head)
cut_made x p b tail head some tb td tp hb hd hp =
    ap (λ (z : Bool). cond z None (cut_on p (timed b b x.period) (timed (x.budget - b) (x.deadline - b) x.period)))
    (ne_eqb b 0 (λ (e : b ≡ 0). omega arith))
    ∙ ap (λ o. cut_on p o (timed (x.budget - b) (x.deadline - b) x.period)) (sym (made tail b b x.period tb td tp))
    ∙ ap (cut_on p (Some tail)) (sym (made head (x.budget - b) (x.deadline - b) x.period hb hd hp))
