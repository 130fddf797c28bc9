-- `good_cell`: numbers and pairs by the whole cell, the others by their tag. Landmarks: what was lent, that the cell is neither a number's nor a
-- pair's, and its tag and payload.
use Prim.Native.Nat.{ℕ, ◌%◌}
use mathlib.Core.Path.{◌≡◌, refl, ap, ◌∙◌}
use native.Mathlib.Omega.{arith}
use lib.Dec.{ltb}
use Rattle.rules.specs.Tables.{table_of}
use Rattle.buffer.proofs.CellAt.{good_by, good_number, good_pair, good_last}
use Rattle.buffer.proofs.good_cell.Goals as goal

pub returns-then-cell-lt-TRUTH : goal.returns-then-cell-lt-TRUTH
returns-then-cell-lt-TRUTH c = good_number _ _ c.if-cell-lt-TRUTH.true

pub returns-then-cell-eq-PAIR : goal.returns-then-cell-eq-PAIR
returns-then-cell-eq-PAIR c = good_pair _ _ c.if-cell-eq-PAIR.true

pub returns-then-t-eq-ELEMENT_TAG : goal.returns-then-t-eq-ELEMENT_TAG
returns-then-t-eq-ELEMENT_TAG c =
    let by_tag_law = λ (k : ℕ) (e : c.tag-t.result ≡ k). good_by (table_of c.args.table.now).sizes _ _ _ k c.tag-t.ensures c.low-p.ensures.0 e in
    ap (λ (n : ℕ). ltb (c.low-p.result % 256) n) c.size.ensures ∙ by_tag_law 3 c.if-t-eq-ELEMENT_TAG.true

pub returns-then-t-eq-TRUTH_TAG : goal.returns-then-t-eq-TRUTH_TAG
returns-then-t-eq-TRUTH_TAG c =
    let by_tag_law = λ (k : ℕ) (e : c.tag-t.result ≡ k). good_by (table_of c.args.table.now).sizes _ _ _ k c.tag-t.ensures c.low-p.ensures.0 e in
    by_tag_law 2 c.if-t-eq-TRUTH_TAG.true

pub returns : goal.returns
returns c =
    let by_tag_law = λ (k : ℕ) (e : c.tag-t.result ≡ k). good_by (table_of c.args.table.now).sizes _ _ _ k c.tag-t.ensures c.low-p.ensures.0 e in
    let t = c.tag-t.ensures in
    good_last _ _ _ (omega (arith, t, c.if-cell-lt-TRUTH.false)) c.if-t-eq-TRUTH_TAG.false c.if-t-eq-ELEMENT_TAG.false
    (λ e z. c.if-cell-eq-PAIR.false (omega (arith, t, c.low-p.ensures.0, e, z))) ∙ by_tag_law _ refl
