-- `load`: the values of the first x identifiers have been read (`Loading`).
use Prim.Native.Nat.{◌<◌, ◌≤◌}
use mathlib.Core.Path.{◌≡◌}
use native.Mathlib.Omega.{arith}
use lib.ListN.{length, replicate, length-replicate, get_or-replicate}
use Rattle.rules.specs.Tables.{table_of}
use Rattle.laws.proofs.TableLaws.{binds_length}
use Rattle.arena.specs.Code.{Same}
use Rattle.arena.proofs.Standing.{same_trans}
use Rattle.buffer.proofs.Walk.{set_same}
use Rattle.buffer.proofs.Loading.{loading_start, loading_step, loading_bad, loading_surplus, loading_end}
use Rattle.buffer.proofs.load.Goals as goal

pub loop-x-init : goal.loop-x-init
loop-x-init c =
    let top = c.args.top in
    loading_start _ _ c.args.values.now c.args.s.now top (replicate 32 top) (omega (arith, c.requires.room))
    (length-replicate 32 top) (λ y l. get_or-replicate 32 y top 0 l)

pub returns-in_default : goal.returns-in_default
returns-in_default c =
    let framed : Same c.args.top c.args.s.now c.loop-x.s = same_trans _ _ _ _ _ (set_same _ _ _ _ (omega arith)) c.loop-x.invariant.frame (omega arith) in
    let e = c.identifiers-count.ensures in
    let all : (c.identifiers-count.result ≡ length (table_of c.args.table.now).binds) × (c.identifiers-count.result ≤ 32) =
    (omega (arith, binds_length c.args.table.now), omega (arith, c.requires.readable.header.identifiers)) in
    let more : (c.loop-x.x < length (table_of c.args.table.now).binds) × (c.loop-x.x < 32) =
    (omega (arith, c.loop-x-test.true, all.0), omega (arith, c.loop-x-test.true, all.1)) in
    let i = c.loop-x.invariant in (
      same_trans _ _ _ _ _ framed c.read_entry.ensures.0 (omega (arith, i.above)),
      loading_bad i more.0 c.in_default.ensures.1,
    )

pub loop-x-preserved : goal.loop-x-preserved
loop-x-preserved c =
    let e = c.identifiers-count.ensures in
    let all : (c.identifiers-count.result ≡ length (table_of c.args.table.now).binds) × (c.identifiers-count.result ≤ 32) =
    (omega (arith, binds_length c.args.table.now), omega (arith, c.requires.readable.header.identifiers)) in
    let more : (c.loop-x.x < length (table_of c.args.table.now).binds) × (c.loop-x.x < 32) =
    (omega (arith, c.loop-x-test.true, all.0), omega (arith, c.loop-x-test.true, all.1)) in
    let entered = c.in-Some.ensures.1 in
    let l = more in
    loading_step c.loop-x.invariant c.read_entry.new.s _ _ _ l.0 l.1 c.read_entry.ensures.0 entered

pub returns-then-c-values : goal.returns-then-c-values
returns-then-c-values c =
    let framed : Same c.args.top c.args.s.now c.loop-x.s = same_trans _ _ _ _ _ (set_same _ _ _ _ (omega arith)) c.loop-x.invariant.frame (omega arith) in
    let e = c.identifiers-count.ensures in
    let all : (c.identifiers-count.result ≡ length (table_of c.args.table.now).binds) × (c.identifiers-count.result ≤ 32) =
    (omega (arith, binds_length c.args.table.now), omega (arith, c.requires.readable.header.identifiers)) in
    let no_more : length (table_of c.args.table.now).binds ≤ c.loop-x.x = omega (arith, c.loop-x-test.false, all.0) in
    let here : c.loop-x.x ≡ c.identifiers-count.result = omega arith in
    (framed, rw (← here) (loading_surplus c.loop-x.invariant no_more c.if-c-values.true))

pub returns : goal.returns
returns c =
    let framed : Same c.args.top c.args.s.now c.loop-x.s = same_trans _ _ _ _ _ (set_same _ _ _ _ (omega arith)) c.loop-x.invariant.frame (omega arith) in
    let e = c.identifiers-count.ensures in
    let all : (c.identifiers-count.result ≡ length (table_of c.args.table.now).binds) × (c.identifiers-count.result ≤ 32) =
    (omega (arith, binds_length c.args.table.now), omega (arith, c.requires.readable.header.identifiers)) in
    let no_more : length (table_of c.args.table.now).binds ≤ c.loop-x.x = omega (arith, c.loop-x-test.false, all.0) in
    (framed, loading_end c.loop-x.invariant no_more (omega (arith, c.if-c-values.false)))
