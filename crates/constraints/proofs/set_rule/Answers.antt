-- By kind codes: each arm has the words of its plan.
use mathlib.Core.Path.{◌≡◌, refl}
use native.Mathlib.Omega.{arith}
use Rattle.rules.specs.Kinds.{kind_of}
use Rattle.terms.proofs.WordLaws.{open_word}
use Rattle.constraints.proofs.RuleLaws.{rule_at, rule_three}
use Rattle.constraints.proofs.set_rule.Goals as goal

pub returns-in-27 : goal.returns-in-27
unfolding kind_of
returns-in-27 c = rule_at c.words.ensures 27 c.in-27.is (c.power.ensures, tt) tt refl

pub returns-in-28 : goal.returns-in-28
unfolding kind_of
returns-in-28 c = rule_at c.words-in-28.ensures 28 c.in-28.is (c.product.ensures, tt) tt refl

pub returns-in-32 : goal.returns-in-32
unfolding kind_of
returns-in-32 c =
    rule_at c.words-in-32.ensures 32 c.in-32.is
    (c.power-in-32.ensures, (open_word, (open_word, (c.product-in-32.ensures, (c.power-in-32-2.ensures, (c.power-in-32-3.ensures, tt))))))
    (c.equation.ensures, (c.equation-in-32.ensures, tt)) refl

pub returns-in-33 : goal.returns-in-33
unfolding kind_of
returns-in-33 c =
    rule_at c.words-in-33.ensures 33 c.in-33.is (c.power-in-33.ensures, (open_word, (c.power-in-33-2.ensures, tt)))
    (c.equation-in-33.ensures, tt) refl

pub returns-in-29 : goal.returns-in-29
unfolding kind_of
returns-in-29 c =
    rule_three c.words-in-29.ensures 29 (omega arith) (omega arith) refl refl
    (c.power-in-29.ensures, (open_word, tt)) (c.equation-in-29.ensures, (c.equation-in-29-2.ensures, tt)) refl

pub returns-in_default : goal.returns-in_default
unfolding kind_of
returns-in_default c =
    let e : c.args.kind ≡ 34 = omega arith in
    rule_at c.words-in_default.ensures 34 e (c.power-in_default.ensures, tt) (c.equation-in_default.ensures, tt) refl
