-- The digits fill the part that was lent for them.
use Rattle.std.proofs.Common.{refl, ap, arith, length}
use Rattle.text.proofs.TextLaws.{appends_as, part_appends, hex_extent}
use Rattle.text.proofs.Text.hex.Goals as goal

pub overflow_add-end : goal.overflow_add-end
overflow_add-end c = omega (arith, hex_extent c.args.codes.now)

pub slice_bounds-hex_digits-end : goal.slice_bounds-hex_digits-end
slice_bounds-hex_digits-end c = omega (arith, hex_extent c.args.codes.now)

pub returns : goal.returns
returns c =
    let e = c.hex_digits.ensures in
    let room = hex_extent c.args.codes.now in
    record {
      same_buffer = refl;
      appended = appends_as e
          (part_appends c.args.self.now.out.now _ c.args.self.now.at _ (omega (arith, room)) (omega (arith, ap length e, room)));
    }
