-- The variable that is read is that of the place.
use mathlib.Core.Path.{sym}
use native.Mathlib.Omega.{arith}
use Rattle.laws.proofs.TableLaws.{nodes_length}
use Rattle.sheets.specs.Steps.{PlaceOf}
use Rattle.sheets.proofs.Scan.{node_in, read_name, read_node, read_below, same_class}
use Rattle.sheets.proofs.Places.place_class.Goals as goal

pub class-requires : goal.class-requires
class-requires c =
    let place : PlaceOf c.args.self.now.table.now c.identifiers-identifiers.result c.args.p =
    record { names = c.identifiers-identifiers.ensures; below = c.requires.1 } in
    (c.requires.0.terms, read_below c.requires.0 place (read_name c.requires.0 place c.if-p-identifiers.true))

pub returns-then-p-identifiers : goal.returns-then-p-identifiers
returns-then-p-identifiers c =
    let place : PlaceOf c.args.self.now.table.now c.identifiers-identifiers.result c.args.p =
    record { names = c.identifiers-identifiers.ensures; below = c.requires.1 } in
    same_class _ (sym (read_name c.requires.0 place c.if-p-identifiers.true)) c.class.ensures

pub offset_bounds-self-p : goal.offset_bounds-self-p
offset_bounds-self-p c =
    let place : PlaceOf c.args.self.now.table.now c.identifiers-identifiers.result c.args.p =
    record { names = c.identifiers-identifiers.ensures; below = c.requires.1 } in
    omega (arith, node_in place c.if-p-identifiers.false, c.requires.0.laid.header.few_nodes)

pub bounds-self-p : goal.bounds-self-p
bounds-self-p c =
    let place : PlaceOf c.args.self.now.table.now c.identifiers-identifiers.result c.args.p =
    record { names = c.identifiers-identifiers.ensures; below = c.requires.1 } in
    omega (arith, node_in place c.if-p-identifiers.false, nodes_length c.args.self.now.table.now, c.requires.0.long)

pub class-requires-2 : goal.class-requires-2
class-requires-2 c =
    let place : PlaceOf c.args.self.now.table.now c.identifiers-identifiers.result c.args.p =
    record { names = c.identifiers-identifiers.ensures; below = c.requires.1 } in
    (c.requires.0.terms, read_below c.requires.0 place (read_node c.requires.0 place c.if-p-identifiers.false c.right_side.ensures))

pub returns : goal.returns
returns c =
    let place : PlaceOf c.args.self.now.table.now c.identifiers-identifiers.result c.args.p =
    record { names = c.identifiers-identifiers.ensures; below = c.requires.1 } in
    same_class _ (sym (read_node c.requires.0 place c.if-p-identifiers.false c.right_side.ensures)) c.class-2.ensures
