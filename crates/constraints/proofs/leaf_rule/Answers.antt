-- By kind codes: each arm has the words of its plan.
use mathlib.Core.Path.{◌≡◌, refl}
use native.Mathlib.Omega.{arith}
use Rattle.rules.specs.Kinds.{kind_of}
use Rattle.terms.proofs.WordLaws.{open_word}
use Rattle.constraints.proofs.RuleLaws.{rule_at, rule_two, given_word}
use Rattle.constraints.proofs.leaf_rule.Goals as goal

pub returns-in-20 : goal.returns-in-20
unfolding kind_of
returns-in-20 c = λ a b. rule_at c.words.ensures 20 c.in-20.is (open_word, tt) (c.equation.ensures, tt) refl

pub returns-in-21 : goal.returns-in-21
unfolding kind_of
returns-in-21 c = λ a b. rule_at c.words-in-21.ensures 21 c.in-21.is (c.power.ensures, (given_word c.atom.ensures, tt)) tt refl

pub returns-in-22 : goal.returns-in-22
unfolding kind_of
returns-in-22 c = λ a b. rule_at c.words-in-22.ensures 22 c.in-22.is (given_word c.atom-in-22.ensures, tt) tt refl

pub returns-in-23 : goal.returns-in-23
unfolding kind_of
returns-in-23 c = λ a b. rule_at c.words-in-23.ensures 23 c.in-23.is (c.atom-in-23.ensures, tt) tt refl

pub returns-in-24 : goal.returns-in-24
unfolding kind_of
returns-in-24 c =
    λ a b.
    rule_two c.words-in-24.ensures 24 (omega arith) (omega arith) refl (c.atom-in-24.ensures, tt) tt refl

pub returns-in_default : goal.returns-in_default
unfolding kind_of
returns-in_default c =
    λ a b.
    let e : c.args.kind ≡ 26 = omega arith in
    rule_at c.words-in_default.ensures 26 e (c.power-in_default.ensures, (open_word, tt)) tt refl
