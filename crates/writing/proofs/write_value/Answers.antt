-- `write_value`: the bytes do not fit and nothing is written, or all cells are (`WrittenLaws`).
use Prim.Native.Nat.{◌-◌}
use mathlib.Core.Path.{◌≡◌, refl}
use native.Mathlib.Omega.{arith}
use lib.ListN.{length, take, drop, length-drop}
use lib.Seq.{length-take-le}
use Rattle.arena.proofs.CodeLaws.{length_code}
use Rattle.writing.proofs.WrittenLaws.{writes_all, writes_none}
use Rattle.writing.proofs.write_value.Goals as goal

pub slice_bounds-cells-end : goal.slice_bounds-cells-end
slice_bounds-cells-end c = let q = c.requires in omega (arith, length_code q.value)

pub returns-then-out-bytes : goal.returns-then-out-bytes
returns-then-out-bytes c =
    let a = c.args in
    let q = c.requires in
    let n : length (take (a.end - a.at) (drop a.at a.s.now)) ≡ a.end - a.at =
    length-take-le (a.end - a.at) (drop a.at a.s.now) (omega (arith, length-drop a.at a.s.now, length_code q.value)) in
    writes_none a.s.now a.out.now a.at a.end _ n (omega (arith, c.if-out-bytes.true))

pub returns : goal.returns
returns c =
    let a = c.args in
    let q = c.requires in
    let n : length (take (a.end - a.at) (drop a.at a.s.now)) ≡ a.end - a.at =
    length-take-le (a.end - a.at) (drop a.at a.s.now) (omega (arith, length-drop a.at a.s.now, length_code q.value)) in
    writes_all a.s.now a.out.now a.at a.end _ _ refl n (omega (arith, c.if-out-bytes.false)) c.put_cells.ensures
