-- Lists of so many fields, the first of them a known word. Assumes nothing.
use Rattle.std.proofs.Common.{◌≡◌, ℕ, true, eqb, List, [], ◌∷◌, length, get_or, Some, Ok, codes, sym, arith}
use Rattle.std.specs.Str.{bytes_eq}
use Rattle.std.proofs.lemmas.Slice.Eq.{bytes_eq-Decides, text_from_reads}
use Rattle.std.proofs.lemmas.Bool.{eqb-true}
use Rattle.lines.specs.declared.setup.JudgeWord.{JudgeWord}
use Rattle.lines.specs.declared.setup.RuleWord.{RuleWord}
use Rattle.lines.specs.Setups.{judge_word, rule_word}
use Rattle.lines.specs.Fields.{says}
use Rattle.lines.specs.Commands.{counted}

pub two_fields : (w : List ℕ) (fs : List (List ℕ)) → length fs ≡ 2 → bytes_eq (get_or fs 0 []) w ≡ true → w ∷ (get_or fs 1 [] ∷ []) ≡ fs
two_fields w [] count word = absurd (omega arith)
two_fields w (x ∷ []) count word = absurd (omega arith)
two_fields w (x ∷ (a ∷ [])) count word = rw ((bytes_eq-Decides x w).0 word)
two_fields w (x ∷ (a ∷ (b ∷ fs))) count word = absurd (omega arith)

pub five_fields : (w : List ℕ) (fs : List (List ℕ)) → length fs ≡ 5 → bytes_eq (get_or fs 0 []) w ≡ true
    → w ∷ (get_or fs 1 [] ∷ (get_or fs 2 [] ∷ (get_or fs 3 [] ∷ (get_or fs 4 [] ∷ [])))) ≡ fs
five_fields w [] count word = absurd (omega arith)
five_fields w (x ∷ []) count word = absurd (omega arith)
five_fields w (x ∷ (a ∷ [])) count word = absurd (omega arith)
five_fields w (x ∷ (a ∷ (b ∷ []))) count word = absurd (omega arith)
five_fields w (x ∷ (a ∷ (b ∷ (c ∷ [])))) count word = absurd (omega arith)
five_fields w (x ∷ (a ∷ (b ∷ (c ∷ (d ∷ []))))) count word = rw ((bytes_eq-Decides x w).0 word)
five_fields w (x ∷ (a ∷ (b ∷ (c ∷ (d ∷ (e ∷ fs)))))) count word = absurd (omega arith)

-- as many fields as the word takes make its command
pub leave_counted : (w : List ℕ) (fs : List (List ℕ)) (k : List ℕ) → true ≡ eqb (length fs) 2 → says fs 0 w ≡ true → k ≡ get_or fs 1 []
    → Ok (w ∷ (k ∷ [])) ≡ counted 2 fs
leave_counted w fs k count word key = rw (← count, key, two_fields w fs (eqb-true _ _ (sym count)) word)

pub admit_counted : (w : List ℕ) (fs : List (List ℕ)) (k c d t : List ℕ) → true ≡ eqb (length fs) 5 → says fs 0 w ≡ true
    → k ≡ get_or fs 1 [] → c ≡ get_or fs 2 [] → d ≡ get_or fs 3 [] → t ≡ get_or fs 4 [] → Ok (w ∷ (k ∷ (c ∷ (d ∷ (t ∷ []))))) ≡ counted 5 fs
admit_counted w fs k c d t count word key budget deadline period =
    rw (← count, key, budget, deadline, period, five_fields w fs (eqb-true _ _ (sym count)) word)

-- a word with the bytes of a known one
pub reads_density : (w : List ℕ) → length w ≡ 7 → get_or w 0 0 ≡ 100 → get_or w 1 0 ≡ 101 → get_or w 2 0 ≡ 110 → get_or w 3 0 ≡ 115 → get_or w 4 0 ≡ 105 → get_or w 5 0 ≡ 116 → get_or w 6 0 ≡ 121 → judge_word w ≡ Some JudgeWord.Density
reads_density w long b0 b1 b2 b3 b4 b5 b6 = rw (text_from_reads w (codes "density") long (b0, (b1, (b2, (b3, (b4, (b5, (b6, tt))))))))

pub reads_demand : (w : List ℕ) → length w ≡ 6 → get_or w 0 0 ≡ 100 → get_or w 1 0 ≡ 101 → get_or w 2 0 ≡ 109 → get_or w 3 0 ≡ 97 → get_or w 4 0 ≡ 110 → get_or w 5 0 ≡ 100 → judge_word w ≡ Some JudgeWord.Demand
reads_demand w long b0 b1 b2 b3 b4 b5 = rw (text_from_reads w (codes "demand") long (b0, (b1, (b2, (b3, (b4, (b5, tt)))))))

pub reads_either : (w : List ℕ) → length w ≡ 6 → get_or w 0 0 ≡ 101 → get_or w 1 0 ≡ 105 → get_or w 2 0 ≡ 116 → get_or w 3 0 ≡ 104 → get_or w 4 0 ≡ 101 → get_or w 5 0 ≡ 114 → judge_word w ≡ Some JudgeWord.Either
reads_either w long b0 b1 b2 b3 b4 b5 = rw (text_from_reads w (codes "either") long (b0, (b1, (b2, (b3, (b4, (b5, tt)))))))

pub reads_fewest : (w : List ℕ) → length w ≡ 6 → get_or w 0 0 ≡ 102 → get_or w 1 0 ≡ 101 → get_or w 2 0 ≡ 119 → get_or w 3 0 ≡ 101 → get_or w 4 0 ≡ 115 → get_or w 5 0 ≡ 116 → rule_word w ≡ Some RuleWord.Fewest
reads_fewest w long b0 b1 b2 b3 b4 b5 = rw (text_from_reads w (codes "fewest") long (b0, (b1, (b2, (b3, (b4, (b5, tt)))))))
