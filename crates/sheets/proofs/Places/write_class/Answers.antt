-- The class has no row yet: its codes are written, and the row is noted. Otherwise the codes of its first row are copied.
use mathlib.Core.Path.{refl}
use native.Mathlib.Omega.{arith}
use Rattle.sheets.proofs.Turn.{class_new, class_again}
use Rattle.sheets.proofs.Places.write_class.Goals as goal

pub returns-then-q-eq0 : goal.returns-then-q-eq0
returns-then-q-eq0 c =
    let a = c.args in
    class_new a.self.now.terms.now a.self.now.marks.now a.firsts.now a.sheet.now a.c a.p _ _ c.write_type.result c.if-q-eq0.true refl c.write_type.ensures

pub returns : goal.returns
returns c =
    let a = c.args in
    class_again a.self.now.terms.now a.self.now.marks.now a.firsts.now a.sheet.now a.c a.p _ _ _ _
    refl c.if-q-eq0.false (omega arith) refl c.copy_within.ensures.after
