-- Refusal 10, or what the types of a small, a middle or a large table come to.
use native.Mathlib.Omega.{arith}
use Rattle.checker.proofs.RoomLaws.{fits_small, fits_middle, fits_large}
use Rattle.checker.proofs.Telling.{told_final, told_misfit, checkable}
use Rattle.checker.proofs.check_readable.Goals as goal

pub returns-then-sheet-identifiers : goal.returns-then-sheet-identifiers
returns-then-sheet-identifiers c =
    told_final _ c.args.sheet.now _ _ (told_misfit c.requires c.identifiers.ensures c.nodes-nodes.ensures _ c.if-sheet-identifiers.true)

pub check_sized-requires : goal.check_sized-requires
check_sized-requires c = record {
  checkable = checkable c.requires c.identifiers.ensures c.nodes-nodes.ensures _ c.if-sheet-identifiers.false;
  sizes = fits_small (omega (arith, c.if-nodes-le-SMALL.true, c.nodes-nodes.ensures));
}

pub check_sized-requires-then-nodes-le-MIDDLE : goal.check_sized-requires-then-nodes-le-MIDDLE
check_sized-requires-then-nodes-le-MIDDLE c = record {
  checkable = checkable c.requires c.identifiers.ensures c.nodes-nodes.ensures _ c.if-sheet-identifiers.false;
  sizes = fits_middle (omega (arith, c.if-nodes-le-MIDDLE.true, c.nodes-nodes.ensures));
}

pub check_sized-requires-2 : goal.check_sized-requires-2
check_sized-requires-2 c = record {
  checkable = checkable c.requires c.identifiers.ensures c.nodes-nodes.ensures _ c.if-sheet-identifiers.false;
  sizes = fits_large c.requires.header.few_nodes;
}

pub returns-then-nodes-le-SMALL : goal.returns-then-nodes-le-SMALL
returns-then-nodes-le-SMALL c = told_final _ c.args.sheet.now _ _ c.check_sized.ensures

pub returns-then-nodes-le-MIDDLE : goal.returns-then-nodes-le-MIDDLE
returns-then-nodes-le-MIDDLE c = told_final _ c.args.sheet.now _ _ c.check_sized-then-nodes-le-MIDDLE.ensures

pub returns : goal.returns
returns c = told_final _ c.args.sheet.now _ _ c.check_sized-2.ensures
