-- `two`: each code has its kind; those of `light` have what it answers.
use Rattle.operations.proofs.Common.{refl, arith, pairing, union, inter, diff, product, union_merged, inter_merged, diff_merged, ready_values, pair_done, two_of, two_last}
use Rattle.operations.proofs.two.Goals as goal
use Rattle.operations.proofs.two.Goals.{in_default-via-then-kind-lt39, in_default-via-else-kind-lt39+else-kind-lt41}

pub pair-requires : goal.pair-requires
pair-requires c = ready_values c.requires

pub returns-in-28 : goal.returns-in-28
returns-in-28 c = two_of pairing c.in-28.is (pair_done c.requires.operands c.pair.ensures c.built.ensures)

pub returns-in-29 : goal.returns-in-29
returns-in-29 c = two_of union c.in-29.is (c.merge.ensures _ (record { takes = refl; merges = union_merged }))

pub returns-in-30 : goal.returns-in-30
returns-in-30 c = two_of inter c.in-30.is (c.merge-in-30.ensures _ (record { takes = refl; merges = inter_merged }))

pub returns-in-31 : goal.returns-in-31
returns-in-31 c = two_of diff c.in-31.is (c.merge-in-31.ensures _ (record { takes = refl; merges = diff_merged }))

pub returns-in-32 : goal.returns-in-32
returns-in-32 c = two_of product c.in-32.is c.product.ensures

pub returns-in-37 : goal.returns-in-37
returns-in-37 c = c.light.ensures c.args.top

pub returns-in_default : goal.returns-in_default
returns-in_default c =
    elim c.in_default.branch [
      | in_default-via-then-kind-lt39 w ↦
          two_last (omega arith) (omega arith) (omega arith) (omega arith) (omega arith) (omega arith) (omega arith) (omega arith)
          c.interval.ensures
      | in_default-via-else-kind-lt39+else-kind-lt41 w ↦
          two_last (omega arith) (omega arith) (omega arith) (omega arith) (omega arith) (omega arith) (omega arith) (omega arith)
          c.interval.ensures
    ]
