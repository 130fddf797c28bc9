-- `put_cells`: after i turns the first i cells are written (`WrittenLaws`).
use mathlib.Core.Path.{◌∙◌, ap}
use Prim.Native.Nat.{◌%◌, ◌/◌}
use mathlib.Core.List.{◌++◌}
use native.Mathlib.Omega.{arith}
use Rattle.rules.specs.Cells.{bytes4}
use Rattle.writing.proofs.WrittenLaws.{put_start, put_turn, cell_word}
use Rattle.writing.proofs.put_cells.Goals as goal

pub loop-i-init : goal.loop-i-init
loop-i-init c = put_start c.args.cells.now c.args.out.now

pub loop-i-preserved : goal.loop-i-preserved
loop-i-preserved c =
    let i = c.loop-i.i in
    let word = c.to_le_bytes-bytes.ensures ∙ cell_word c.code_cell.result ∙
    ap (λ x. bytes4 (x % 4294967296) ++ bytes4 (x / 4294967296)) c.code_cell.ensures in
    put_turn c.args.cells.now c.args.out.now i (omega arith) (omega arith) c.loop-i.out _ c.loop-i.invariant (c.copy_from_slice.ensures.after ∙ word)
