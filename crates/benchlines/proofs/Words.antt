-- The words of a first line that are known say how many fields it has, and so which of them are read. Assumes nothing.
use Rattle.std.proofs.Common.{◌≡◌, ℕ, ◌-◌, ◌<◌, ◌≤◌, Bool, true, false, cond, not, ◌&&◌, ◌||◌, ltb, List, [], length, get_or, is_some, Some, None, Ok, Err, codes, Option, Result, ◌==◌, sym, refl, ap, ◌∙◌, arith, lt-ltb, le-ltb}
use Rattle.std.specs.Str.{bytes_eq}
use Rattle.std.proofs.lemmas.Bool.Decides.{nat_tests}
use Rattle.std.proofs.lemmas.Slice.Eq.{bytes_eq-Decides}
use Rattle.model.specs.declared.fault.LineFault.{LineFault}
use Rattle.lines.specs.declared.setup.JudgeWord.{JudgeWord}
use Rattle.lines.specs.declared.setup.RuleWord.{RuleWord}
use Rattle.lines.specs.Fields.{fields}
use Rattle.lines.specs.Numbers.{then_do}
use Rattle.lines.specs.Setups.{judge_word, rule_word}
use Rattle.benchlines.specs.declared.settings.RuleSetting.{RuleSetting}
use Rattle.benchlines.specs.declared.settings.Settings.{Settings}
use Rattle.benchlines.specs.Numbers.{number_at, checked, numbers_at}
use Rattle.benchlines.specs.Openings.{unknown_word, is_listed, wanted, paired, worded, settings_written}
use Rattle.benchlines.specs.Settings.{rule_among, settings_among, settings_of}

-- six fields with a rule's word, else fourteen
abbrev expected : Option RuleWord → ℕ
expected (Some word) = 6
expected None = 14

no_word : (f : List ℕ) (word : RuleWord) (listed : Bool) → bytes_eq f (codes "listed") ≡ listed → rule_word f ≡ Some word → listed ≡ false
no_word f word false is named = refl
no_word f word true is named =
    let same : f ≡ codes "listed" = (bytes_eq-Decides f (codes "listed")).0 is in
    let none : ◌≡◌ {A = Option RuleWord} None (Some word) = sym (ap rule_word same) ∙ named in cc

or_last : (a b c : Bool) → (a || (b || c)) ≡ false → c ≡ false
or_last false false c h = h
or_last false true c h = absurd (cc)
or_last true b c h = absurd (cc)

stands : (here listed : Bool) → here ≡ true → (here && (true && not listed)) ≡ false → listed ≡ true
stands true true h e = refl
stands true false h e = sym e
stands false listed h e = absurd (cc)

wanted_by : (fs : List (List ℕ)) (word : Option RuleWord) → rule_word (get_or fs 5 []) ≡ word → 5 < length fs → unknown_word fs ≡ false →
    wanted fs ≡ expected word
wanted_by fs (Some word) is long known = ap (λ b. cond b 14 6) (no_word (get_or fs 5 []) word (is_listed fs) refl is)
wanted_by fs None is long known =
    let here = ltb 5 (length fs) in
    let last : (here && (not (is_some (rule_word (get_or fs 5 []))) && not (is_listed fs))) ≡ false = or_last _ _ _ known in
    ap (λ b. cond b 14 6) (stands here (is_listed fs) (lt-ltb 5 (length fs) long)
    (ap (λ r. here && (not (is_some r) && not (is_listed fs))) (sym is) ∙ last))

abbrev written : List (List ℕ) → RuleSetting → JudgeWord → Settings
written fs rule judge = record { processors = number_at fs 1; steps = number_at fs 2; refinements = number_at fs 3; judge = judge; rule = rule }

order_read : (fs : List (List ℕ)) (all : Result (Unit {0}) LineFault) (judge : Option JudgeWord) →
    then_do (then_do (then_do all (λ u. Ok (numbers_at fs 6 8))) (λ order. Ok (RuleSetting.Listed order)))
    (λ rule. then_do (paired judge None) (λ words. Ok (written fs rule words.0)))
    ≡ then_do (then_do all (λ u. paired judge None)) (λ words. Ok (settings_written fs words.0 words.1))
order_read fs (Ok u) (Some judge) = refl
order_read fs (Ok u) None = refl
order_read fs (Err fault) judge = refl

among_by : (fs : List (List ℕ)) (three : Result (Unit {0}) LineFault) (word : Option RuleWord) (judge : Option JudgeWord) →
    then_do three (λ u. then_do (rule_among fs word) (λ rule. then_do (paired judge word) (λ words. Ok (written fs rule words.0))))
    ≡ then_do (then_do (then_do three (λ u. checked fs 6 (expected word - 6))) (λ u. paired judge word)) (λ words. Ok (settings_written fs words.0 words.1))
among_by fs (Err fault) word judge = refl
among_by fs (Ok u) (Some word) (Some judge) = refl
among_by fs (Ok u) (Some word) None = refl
among_by fs (Ok u) None judge = order_read fs (checked fs 6 8) judge

six : (listed : Bool) → 5 < cond listed 14 6
six true = omega arith
six false = omega arith

among_read : (fs : List (List ℕ)) → unknown_word fs ≡ false → (length fs == wanted fs) ≡ true →
    settings_among fs ≡ then_do (worded fs) (λ words. Ok (settings_written fs words.0 words.1))
among_read fs words count =
    let word = rule_word (get_or fs 5 []) in let judge = judge_word (get_or fs 4 []) in
    let many : length fs ≡ wanted fs = grind (arith, nat_tests) in
    let long : 5 < length fs = omega (arith, six (is_listed fs)) in
    among_by fs (checked fs 1 3) word judge
    ∙ ap (λ n. then_do (then_do (then_do (checked fs 1 3) (λ u. checked fs 6 (n - 6))) (λ u. paired judge word)) (λ words. Ok (settings_written fs words.0 words.1)))
    (sym (wanted_by fs word refl long words))

pub settings_read : (line : List ℕ) (n : ℕ) (result : Result Settings LineFault) → length line ≤ 12000 → false ≡ unknown_word (fields line) →
    n ≡ wanted (fields line) → true ≡ (length (fields line) == n) → result ≡ settings_among (fields line) → result ≡ settings_of line
settings_read line n result short known many count is =
    let fs = fields line in
    let all : (length fs == wanted fs) ≡ true = ap (λ k. length fs == k) (sym many) ∙ sym count in
    is ∙ among_read fs (sym known) all ∙ rw (le-ltb 12000 (length line) short, sym known, all) refl
