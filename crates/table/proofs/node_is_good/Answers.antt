-- A known kind has three fields; the node is good if each of them is.
use mathlib.Core.Bool.{◌&&◌}
use mathlib.Core.Path.{◌≡◌, refl, ◌∙◌}
use Rattle.table.proofs.Fields.{field_test, field_told, node_unknown, node_read}
use Rattle.table.proofs.node_is_good.Goals as goal
use Rattle.table.proofs.node_is_good.Goals.{then-field_is_good, else-field_is_good}

pub returns-then-is_none : goal.returns-then-is_none
returns-then-is_none c = node_unknown c.args.table.now c.args.n _ _ c.kind.ensures c.category.ensures c.if-is_none.ensures

pub returns-then-field_is_good-2 : goal.returns-then-field_is_good-2
returns-then-field_is_good-2 c =
    let s = c.args in
    let fields = c.node_fields-fields.ensures in
    let first = c.field_is_good in
    let two : c.if-field_is_good.value ≡ (first.result && field_test s.table.now s.n 1) =
    elim c.if-field_is_good.branch [
      | then-field_is_good w ↦ rw w.if-field_is_good.true (w.value-is ∙ field_told fields.b w.field_is_good-then-field_is_good.ensures)
      | else-field_is_good w ↦ rw w.if-field_is_good.false (w.value-is ∙ w.if-field_is_good.false)
    ] in
    node_read s.table.now s.n _ _ c.kind.ensures c.category.ensures c.if-is_none.ensures _ _ _ _ _
    (field_told fields.a first.ensures) refl (field_told fields.c c.field_is_good-then-field_is_good-2.ensures) two (rw c.if-field_is_good-2.true refl)

pub returns-else-field_is_good-2 : goal.returns-else-field_is_good-2
returns-else-field_is_good-2 c =
    let s = c.args in
    let fields = c.node_fields-fields.ensures in
    let first = c.field_is_good in
    let two : c.if-field_is_good.value ≡ (first.result && field_test s.table.now s.n 1) =
    elim c.if-field_is_good.branch [
      | then-field_is_good w ↦ rw w.if-field_is_good.true (w.value-is ∙ field_told fields.b w.field_is_good-then-field_is_good.ensures)
      | else-field_is_good w ↦ rw w.if-field_is_good.false (w.value-is ∙ w.if-field_is_good.false)
    ] in
    node_read s.table.now s.n _ _ c.kind.ensures c.category.ensures c.if-is_none.ensures _ _ (field_test s.table.now s.n 2) _ _
    (field_told fields.a first.ensures) refl refl two (rw c.if-field_is_good-2.false refl)
