-- An identifier has a type; of a node its category tells.
use Rattle.table.specs.declared.NodeCategory.TheVariants.{Expression}
use Rattle.table.proofs.Fields.{category_read}
use Rattle.sheets.specs.Steps.{PlaceOf}
use Rattle.sheets.proofs.Scan.{typed_name, node_in, typed_node}
use Rattle.sheets.proofs.Places.has_type.Goals as goal

pub returns-then-p-identifiers : goal.returns-then-p-identifiers
returns-then-p-identifiers c =
    let place : PlaceOf c.args.self.now.table.now c.identifiers-identifiers.result c.args.p =
    record { names = c.identifiers-identifiers.ensures; below = c.requires.1 } in
    typed_name place c.if-p-identifiers.true

pub kind-requires : goal.kind-requires
kind-requires c =
    let place : PlaceOf c.args.self.now.table.now c.identifiers-identifiers.result c.args.p =
    record { names = c.identifiers-identifiers.ensures; below = c.requires.1 } in
    record { laid = c.requires.0; below = node_in place c.if-p-identifiers.false }

pub returns : goal.returns
returns c =
    let place : PlaceOf c.args.self.now.table.now c.identifiers-identifiers.result c.args.p =
    record { names = c.identifiers-identifiers.ensures; below = c.requires.1 } in
    typed_node _ place c.if-p-identifiers.false (category_read _ _ _ _ Expression _ c.kind.ensures c.category.ensures c.eq.ensures)
