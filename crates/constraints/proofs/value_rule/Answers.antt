-- By kind codes: each arm has the words of its plan.
use mathlib.Core.Path.{◌≡◌, refl}
use native.Mathlib.Omega.{arith}
use Rattle.rules.specs.Kinds.{kind_of}
use Rattle.terms.proofs.WordLaws.{open_word}
use Rattle.constraints.proofs.RuleLaws.{rule_at, rule_two}
use Rattle.constraints.proofs.value_rule.Goals as goal

pub returns-in-35 : goal.returns-in-35
unfolding kind_of
returns-in-35 c =
    λ x.
    rule_at c.words.ensures 35 c.in-35.is
    (c.power.ensures, (open_word, (open_word, (c.product.ensures, (c.power-in-35.ensures, tt))))) (c.equation.ensures, tt) refl

pub returns-in-36 : goal.returns-in-36
unfolding kind_of
returns-in-36 c =
    λ x.
    rule_at c.words-in-36.ensures 36 c.in-36.is
    (c.power-in-36.ensures, (open_word, (open_word, (c.product-in-36.ensures, (c.power-in-36-2.ensures, tt))))) (c.equation-in-36.ensures, tt) refl

pub returns-in-37 : goal.returns-in-37
unfolding kind_of
returns-in-37 c =
    λ x.
    rule_at c.words-in-37.ensures 37 c.in-37.is (open_word, (c.product-in-37.ensures, (c.power-in-37.ensures, tt))) (c.equation-in-37.ensures, tt) refl

pub returns-in-38 : goal.returns-in-38
unfolding kind_of
returns-in-38 c =
    λ x.
    rule_at c.words-in-38.ensures 38 c.in-38.is (c.atom.ensures, (open_word, (c.power-in-38.ensures, tt))) (c.equation-in-38.ensures, tt) refl

pub returns-in-41 : goal.returns-in-41
unfolding kind_of
returns-in-41 c =
    λ x.
    rule_at c.words-in-41.ensures 41 c.in-41.is (c.power-in-41.ensures, (c.atom-in-41.ensures, tt))
    (c.equation-in-41.ensures, (c.equation-in-41-2.ensures, tt)) refl

pub returns-in-42 : goal.returns-in-42
unfolding kind_of
returns-in-42 c = λ x. rule_at c.words-in-42.ensures 42 c.in-42.is (c.power-in-42.ensures, (c.atom-in-42.ensures, tt)) tt refl

pub returns-in-39 : goal.returns-in-39
unfolding kind_of
returns-in-39 c =
    λ x.
    rule_two c.words-in-39.ensures 39 (omega arith) (omega arith) refl (c.atom-in-39.ensures, tt)
    (c.equation-in-39.ensures, (c.equation-in-39-2.ensures, tt)) refl

pub returns-in_default : goal.returns-in_default
unfolding kind_of
returns-in_default c =
    λ x.
    let e : c.args.kind ≡ 43 = omega arith in
    rule_at c.words-in_default.ensures 43 e (open_word, (c.power-in_default.ensures, tt)) (c.equation-in_default.ensures, tt) refl
