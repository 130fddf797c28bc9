-- What Check takes for granted: a table that was read, fresh work arrays that have room for it, and arrays that keep their lengths.
use Prim.Native.Nat.{ℕ, ◌+◌, ◌*◌, ◌≤◌, ◌<◌}
use mathlib.Core.List.{List}
use mathlib.Core.Path.{◌≡◌}
use native.Mathlib.Omega.{arith}
use lib.ListN.{length, replicate, length-replicate}
use Rattle.rules.specs.Tables.{table_of, node_count, nodes_at}
use Rattle.rules.specs.Readable.{Readable}
use Rattle.laws.proofs.ReadingLaws.{reading_readable}
use Rattle.laws.proofs.TableLaws.{nodes_length}
use Rattle.table.specs.Layout.{Fielded}
use Rattle.constraints.specs.Constrained.{NodeRoom, Constrained}
use Rattle.checker.specs.Solving.{Ready, WorkRoom, SizesFit}
use Rattle.checker.specs.Answers.{Checkable}

pub was_read : {bs sheet : List ℕ} → Checkable bs sheet → Readable bs
was_read {bs} k = reading_readable bs (table_of bs) k.reads

pub fielded : {bs sheet : List ℕ} {at : ℕ} → Checkable bs sheet → at ≡ nodes_at bs → Fielded bs at
fielded {bs} k e = record {
  laid = record { header = (was_read k).header; base = e };
  fields = λ n h. (was_read k).records.fields n (rw (nodes_length bs) h);
}

pub ready : {bs sheet shapes eqns starts shapes' eqns' starts' : List ℕ} → Checkable bs sheet → NodeRoom (node_count bs) shapes eqns starts →
    length shapes' ≡ length shapes → length eqns' ≡ length eqns → length starts' ≡ length starts →
    Constrained (table_of bs) (node_count bs) shapes' eqns' starts' → Ready bs shapes' eqns' starts'
ready c r a b d q = record {
  readable = was_read c;
  room = record {
    shapes_room = omega (arith, a, r.shapes_room);
    equations_room = omega (arith, b, r.equations_room);
    starts_room = omega (arith, d, r.starts_room);
  };
  held = q;
}

-- Fresh arrays for up to k nodes.
pub fresh_nodes : (n k a b c : ℕ) → n ≤ k → 32 + 6 * k ≤ a → 2 * k ≤ b → k < c → NodeRoom n (replicate a 0) (replicate b 0) (replicate c 0)
fresh_nodes n k a b c few ha hb hc = record {
  shapes_room = omega (arith, length-replicate {A = ℕ} a 0);
  equations_room = omega (arith, length-replicate {A = ℕ} b 0);
  starts_room = omega (arith, length-replicate {A = ℕ} c 0);
}

pub fresh_work : (bs : List ℕ) (k a b : ℕ) → node_count bs ≤ k → 32 + 6 * k ≤ a → 34 + 6 * k ≤ b → WorkRoom bs (replicate a 0) (replicate b 0) (replicate a 0)
fresh_work bs k a b few ha hb = record {
  terms_room = omega (arith, length-replicate {A = ℕ} a 0);
  stack_room = omega (arith, length-replicate {A = ℕ} b 0);
  marks_room = omega (arith, length-replicate {A = ℕ} a 0);
}

-- The same of arrays whose sizes fit n nodes.
pub sized_nodes : {n v e b k : ℕ} → SizesFit n v e b k → NodeRoom n (replicate v 0) (replicate e 0) (replicate b 0)
sized_nodes {n} {v} {e} {b} h =
    fresh_nodes n n v e b (omega arith) (omega (arith, h.variables_fit)) (omega (arith, h.equations_fit)) (omega (arith, h.starts_fit))

pub sized_work : {bs : List ℕ} {v e b k : ℕ} → SizesFit (node_count bs) v e b k → WorkRoom bs (replicate v 0) (replicate k 0) (replicate v 0)
sized_work {bs} {v} {e} {b} {k} h =
    fresh_work bs (node_count bs) v k (omega arith) (omega (arith, h.variables_fit)) (omega (arith, h.stack_fit))

-- The sizes of the three kinds of tables.
pub fits_small : {n : ℕ} → n ≤ 64 → SizesFit n 416 128 65 418
fits_small h = record {
  variables_fit = omega arith;
  equations_fit = omega arith;
  starts_fit = omega arith;
  stack_fit = omega arith;
  few_variables = omega arith;
  few_equations = omega arith;
  few_starts = omega arith;
  few_stacked = omega arith;
}

pub fits_middle : {n : ℕ} → n ≤ 160 → SizesFit n 992 320 161 994
fits_middle h = record {
  variables_fit = omega arith;
  equations_fit = omega arith;
  starts_fit = omega arith;
  stack_fit = omega arith;
  few_variables = omega arith;
  few_equations = omega arith;
  few_starts = omega arith;
  few_stacked = omega arith;
}

pub fits_large : {n : ℕ} → n ≤ 512 → SizesFit n 3104 1024 513 3106
fits_large h = record {
  variables_fit = omega arith;
  equations_fit = omega arith;
  starts_fit = omega arith;
  stack_fit = omega arith;
  few_variables = omega arith;
  few_equations = omega arith;
  few_starts = omega arith;
  few_stacked = omega arith;
}
