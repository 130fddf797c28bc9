-- `loaded_conform`: a sheet of another length does not conform; in one of the table's length, the values of the identifiers below x have
-- their types.
use Prim.Native.Nat.{ℕ, ◌+◌, ◌*◌, ◌<◌}
use mathlib.Core.List.{List}
use mathlib.Core.Path.{◌≡◌, refl}
use native.Mathlib.Omega.{arith}
use lib.ListN.{length, get_or}
use Rattle.rules.specs.Tables.{table_of, identifier_count, node_count}
use Rattle.rules.specs.Readable.{Readable}
use Rattle.rules.specs.Verdict.{sheet_length}
use Rattle.laws.proofs.TableLaws.{binds_length, nodes_length}
use Rattle.conforms.specs.Rows.{SheetFits}
use Rattle.conforms.proofs.NameLaws.{Named, misfit_not, name_ready, have_no, have_more, have_all}
use Rattle.conforms.proofs.loaded_conform.Goals as goal

-- The sheet's length of a table, by the numbers of its identifiers and of its nodes.
module _ (bs : List ℕ) {i n : ℕ} (e : i ≡ identifier_count bs) (f : n ≡ node_count bs) where
  rows : 64 * (i + n) ≡ sheet_length (table_of bs)
  rows = omega (arith, e, f, binds_length bs, nodes_length bs)

  module _ {sheet : List ℕ} (g : length sheet ≡ 64 * (i + n)) where
    fits : SheetFits bs sheet
    fits = record { rows = omega (arith, g, rows) }

    -- x is an identifier, and its value's place has been read.
    named : {env : List ℕ} {x at : ℕ} → Readable bs → x < i → at ≡ get_or env x 0 → Named bs env sheet x at
    named q l p = record { readable = q; fits = fits; below = omega (arith, l, e); place = p }

pub returns-then-sheet-count : goal.returns-then-sheet-count
returns-then-sheet-count c =
    misfit_not c.requires.readable _ (λ e. c.if-sheet-count.true (omega (arith, e, rows c.args.table.now c.identifiers-count.ensures c.nodes.ensures)))

pub loop-x-init : goal.loop-x-init
loop-x-init c = λ buffer top end b. refl

pub name_has-requires : goal.name_has-requires
name_has-requires c =
    let n = named _ c.identifiers-count.ensures c.nodes.ensures c.if-sheet-count.false c.requires.readable c.loop-x-test.true refl in
    name_ready n c.requires

pub returns-then-not-name_has : goal.returns-then-not-name_has
returns-then-not-name_has c =
    let n = named _ c.identifiers-count.ensures c.nodes.ensures c.if-sheet-count.false c.requires.readable c.loop-x-test.true refl in
    have_no n c.name_has.ensures c.if-not-name_has.true

pub loop-x-preserved : goal.loop-x-preserved
loop-x-preserved c =
    let n = named _ c.identifiers-count.ensures c.nodes.ensures c.if-sheet-count.false c.requires.readable c.loop-x-test.true refl in
    have_more n c.name_has.ensures c.if-not-name_has.false c.loop-x.invariant

pub returns : goal.returns
returns c =
    let e : identifier_count c.args.table.now ≡ c.loop-x.x =
    omega (arith, c.loop-x-test.false, c.identifiers-count.ensures) in
    have_all c.requires.readable _ (fits _ c.identifiers-count.ensures c.nodes.ensures c.if-sheet-count.false) (rw e c.loop-x.invariant)
