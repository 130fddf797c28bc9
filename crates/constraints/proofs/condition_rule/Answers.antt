-- By kind codes: each arm has the words of its plan.
use mathlib.Core.Path.{refl}
use native.Mathlib.Omega.{arith}
use Rattle.rules.specs.Kinds.{kind_of}
use Rattle.terms.proofs.WordLaws.{open_word}
use Rattle.constraints.proofs.RuleLaws.{rule_at, rule_two, low_rule}
use Rattle.constraints.proofs.condition_rule.Goals as goal

pub returns-in-6 : goal.returns-in-6
unfolding kind_of
returns-in-6 c = rule_at c.words.ensures 6 c.in-6.is (open_word, tt) (c.equation.ensures, tt) refl

pub returns-in-7 : goal.returns-in-7
unfolding kind_of
returns-in-7 c = rule_at c.words-in-7.ensures 7 c.in-7.is (open_word, (c.power.ensures, tt)) (c.equation-in-7.ensures, tt) refl

pub returns-in-8 : goal.returns-in-8
unfolding kind_of
returns-in-8 c =
    rule_at c.words-in-8.ensures 8 c.in-8.is (open_word, (open_word, (c.power-in-8.ensures, tt)))
    (c.equation-in-8.ensures, (c.equation-in-8-2.ensures, tt)) refl

pub returns-in-9 : goal.returns-in-9
unfolding kind_of
returns-in-9 c =
    rule_at c.words-in-9.ensures 9 c.in-9.is (open_word, (c.atom.ensures, tt))
    (c.equation-in-9.ensures, (c.equation-in-9-2.ensures, tt)) refl

pub returns-in-10 : goal.returns-in-10
unfolding kind_of
returns-in-10 c =
    rule_two c.words-in-10.ensures 10 (omega arith) (omega arith) refl
    (open_word, (c.power-in-10.ensures, tt)) (c.equation-in-10.ensures, tt) refl

pub returns-in_default : goal.returns-in_default
unfolding kind_of
returns-in_default c = low_rule c.words-in_default.ensures (omega arith)
