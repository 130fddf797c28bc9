-- By the ranges of the kind codes.
use native.Mathlib.Omega.{arith}
use Rattle.table.proofs.Access.{category_predicate, category_expression, category_below, category_between, category_above}
use Rattle.table.proofs.category.Goals as goal

pub returns-in-1-to-11 : goal.returns-in-1-to-11
returns-in-1-to-11 c = category_predicate _ (omega arith) (omega arith)

pub returns-in-20-to-43 : goal.returns-in-20-to-43
returns-in-20-to-43 c = category_expression _ (omega arith) (omega arith)

pub returns-in_default : goal.returns-in_default
returns-in_default c = category_below _ (omega arith)

pub returns-in_default-2 : goal.returns-in_default-2
returns-in_default-2 c = category_between _ (omega arith) (omega arith)

pub returns-in_default-3 : goal.returns-in_default-3
returns-in_default-3 c = category_above _ (omega arith)
