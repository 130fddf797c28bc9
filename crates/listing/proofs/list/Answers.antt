-- The text for what Check answers: the refusal's line, or the lines of the sheet that Check wrote, which is the part of `sheet` lent to it.
use Rattle.std.proofs.Common.{rules, ℕ, List, ◌*◌, ◌≤◌, ◌≡◌, ◌++◌, length, take, drop}
use mathlib.Core.Path.{sym, ap, ◌∙◌}
use native.Mathlib.Omega.{arith}
use lib.Seq.{length-take-le}
use Rattle.checker.specs.Answers.{answer_of}
use Rattle.text.specs.Text.{lines_of, accepted_line}
use Rattle.listing.proofs.ListingLaws.{accepted_short, refusal_short, listing_refused, listing_accepted, front_written, whole_text}
use Rattle.listing.proofs.list.Goals as goal

-- The part of the sheet that is lent to Check: as long as the rows of all places.
part_long : (count : ℕ) (sheet : List ℕ) → count ≤ 544 → 34816 ≤ length sheet → 64 * count ≡ length (take (64 * count) sheet)
part_long count sheet h k = sym (length-take-le (64 * count) sheet (omega (arith, h, k)))

-- The rows that Check wrote, as the part of the sheet that is printed.
printed_rows : (count : ℕ) (rows sheet : List ℕ) → length rows ≡ length (take (64 * count) sheet) → count ≤ 544 → 34816 ≤ length sheet →
    take (64 * count) (rows ++ drop (64 * count) sheet) ≡ rows
printed_rows count rows sheet e h k = front_written rows sheet (64 * count) e (omega (arith, h, k))

-- The buffer has room for the text of a table that is accepted.
room : (i count : ℕ) (sheet out : List ℕ) → count ≤ 544 → 83241 ≤ length out →
    length (lines_of i count sheet ++ accepted_line) ≤ length out
room i count sheet out h k = omega (arith, accepted_short i count sheet h, k)

pub refused-requires : goal.refused-requires
refused-requires c =
    let r = c.in-Err.r in
    omega (arith, refusal_short r.number r.place (search rules) (search rules), c.requires.1)

pub accepted-requires : goal.accepted-requires
accepted-requires c =
    let n = c.counts-identifiers.result.1 in
    let s = c.args.sheet.now in
    let rows = c.check.new.sheet in
    let small = c.counts-identifiers.ensures.2 in
    let same = printed_rows n rows s c.check.auto.sheet small c.requires.0 in (
      omega (arith, part_long n s small c.requires.0, ap length same, c.check.auto.sheet),
      room c.counts-identifiers.result.0 n (take (64 * n) (rows ++ drop (64 * n) s)) c.args.out.now small c.requires.1,
    )

pub returns-in-Err : goal.returns-in-Err
returns-in-Err c =
    let n = c.counts-identifiers.result.1 in
    let r = c.in-Err.r in
    let short = refusal_short r.number r.place (search rules) (search rules) in
    whole_text c.refused.ensures (omega (arith, short, c.requires.1))
    (listing_refused c.args.table.now n _ _ _ c.counts-identifiers.ensures.1 (part_long n c.args.sheet.now c.counts-identifiers.ensures.2 c.requires.0)
    (sym (ap answer_of c.in-Err.is) ∙ c.check.ensures.0))

pub returns-in-Ok : goal.returns-in-Ok
returns-in-Ok c =
    let n = c.counts-identifiers.result.1 in
    let s = c.args.sheet.now in
    let rows = c.check.new.sheet in
    let small = c.counts-identifiers.ensures.2 in
    let same = printed_rows n rows s c.check.auto.sheet small c.requires.0 in
    let i = c.counts-identifiers.result.0 in
    let written = ap (λ l. lines_of i n l ++ accepted_line) same in
    whole_text c.accepted.ensures
    (room i n (take (64 * n) (rows ++ drop (64 * n) s)) c.args.out.now small c.requires.1)
    (written ∙ listing_accepted c.args.table.now i n _ rows (take (64 * n) s) c.counts-identifiers.ensures.0 c.counts-identifiers.ensures.1
    (part_long n s small c.requires.0) (sym (ap answer_of c.in-Ok.is) ∙ c.check.ensures.0) c.check.ensures.1)
