-- The lines from place p on remain to be written; a turn takes the line of p off their front.
use Rattle.std.proofs.Common.{◌+◌, ◌*◌, ◌-◌, ◌∙◌, refl, arith, take, drop}
use Rattle.text.specs.Text.{line_of}
use Rattle.text.proofs.TextLaws.{remains_turn, remains_end, remains_room, lines_from, lines_start, lines_more, lines_end, part_row}
use Rattle.text.proofs.Text.lines.Goals as goal

pub loop-p-init : goal.loop-p-init
loop-p-init c = record { same_buffer = refl; rest = lines_start _ _ _ _ _ }

pub line-requires : goal.line-requires
line-requires c =
    let p = c.loop-p.p in
    let sheet = c.args.sheet.now in
    let i = c.args.identifiers in
    let count = c.args.count in
    let row = take ((64 * p + 64) - 64 * p) (drop (64 * p) sheet) in
    remains_room (line_of i p row) (lines_from i sheet (p + 1) (count - (p + 1))) c.loop-p.invariant.rest c.requires.1
    (lines_more i count sheet row p c.loop-p-test.true (part_row sheet p))

pub loop-p-preserved : goal.loop-p-preserved
loop-p-preserved c = record {
  same_buffer = c.line.ensures.same_buffer ∙ c.loop-p.invariant.same_buffer;
  rest =
      remains_turn c.loop-p.invariant.rest (lines_more _ _ _ _ _ c.loop-p-test.true (part_row c.args.sheet.now c.loop-p.p)) c.line.ensures.appended;
}

pub returns : goal.returns
returns c = record {
  same_buffer = c.loop-p.invariant.same_buffer;
  appended = remains_end c.loop-p.invariant.rest (lines_end c.args.identifiers c.args.count c.args.sheet.now c.loop-p.p (omega arith));
}
