-- By the kind's code.
use Prim.Native.Nat.{ℕ, ◌<◌}
use native.Mathlib.Omega.{arith}
use lib.ListN.{get_or}
use Rattle.constants.proofs.ConstantLaws.{cell_empty, cell_low, cell_high, narrow, cell_scalar}
use Rattle.constants.proofs.constant_cell.Goals as goal

pub scalar_cell-requires : goal.scalar_cell-requires
scalar_cell-requires c =
    let bytes : (i : ℕ) → get_or c.args.table.now i 0 < 256 = λ i. (c.type_inv.table i).fits in
    narrow _ c.requires.0 _ c.requires.2 bytes c.kind-kind.ensures (omega arith) (omega arith) c.field-a.ensures c.field-b.ensures

pub returns-in-22-to-24 : goal.returns-in-22-to-24
returns-in-22-to-24 c =
    let bytes : (i : ℕ) → get_or c.args.table.now i 0 < 256 = λ i. (c.type_inv.table i).fits in
    cell_scalar _ c.requires.0 _ c.requires.2 bytes c.kind-kind.ensures (omega arith) (omega arith)
    c.field-a.ensures c.field-b.ensures _ c.scalar_cell.ensures

pub returns-in-26 : goal.returns-in-26
returns-in-26 c =
    let bytes : (i : ℕ) → get_or c.args.table.now i 0 < 256 = λ i. (c.type_inv.table i).fits in
    cell_empty _ c.requires.0 _ c.requires.2 bytes c.kind-kind.ensures c.in-26.is

pub returns-in_default : goal.returns-in_default
returns-in_default c =
    let bytes : (i : ℕ) → get_or c.args.table.now i 0 < 256 = λ i. (c.type_inv.table i).fits in
    cell_low _ c.requires.0 _ c.requires.2 bytes c.kind-kind.ensures (omega arith)

pub returns-in_default-2 : goal.returns-in_default-2
returns-in_default-2 c =
    let bytes : (i : ℕ) → get_or c.args.table.now i 0 < 256 = λ i. (c.type_inv.table i).fits in
    cell_high _ c.requires.0 _ c.requires.2 bytes c.kind-kind.ensures (λ e. omega arith) (omega arith)
