-- The steps of `build` over a table's bytes: what is read of the next node is what its plan speaks of, and there is room for its words.
use Prim.Native.Nat.{ℕ, suc, ◌+◌, ◌%◌, ◌/◌, ◌≤◌, ◌<◌}
use mathlib.Core.List.{List}
use mathlib.Core.Path.{◌≡◌, ap, subst, ◌∙◌}
use native.Mathlib.Omega.{arith}
use lib.ListN.{get_or, length, set}
use Rattle.rules.specs.Readable.{Header}
use Rattle.rules.specs.Tables.{table_of, node_at}
use Rattle.laws.proofs.TableLaws.{sizes_length, binds_length, nodes_length}
use Rattle.typing.specs.Equations.{base, equations}
use Rattle.constraints.specs.declared.NodeWords.{NodeWords}
use Rattle.constraints.specs.Constrained.{NodeRoom, Constrained}
use Rattle.constraints.specs.Rules.{RuleRoom, RuleHeld, NodeRule, OperandVar, WordsCopied, ReadyNode, NextNode}
use Rattle.constraints.proofs.NodeLaws.{NodeRead, node_words_law, start_next, constrained_next}
use Rattle.typing.proofs.EquationCounts.{equations_bound}
use Rattle.constraints.proofs.PartLaws.{variables_fit, few_variables, start_small, variable_is, count_is_law}

-- What is read of node n.
module _ {bs : List ℕ} {at n : ℕ} {starts : List ℕ} (q : ReadyNode bs at n starts) where
  own_is : {v : ℕ} → v ≡ get_or starts n 0 % 4096 → v ≡ base (table_of bs) n
  own_is = variable_is q.fielded.laid.header (omega (arith, q.below)) starts q.starts_to (omega arith)

  operand_is : {f a v : ℕ} → f ≡ a → OperandVar starts n f v → a < n → v ≡ base (table_of bs) a
  operand_is {f} {a} e o l =
      variable_is q.fielded.laid.header (omega (arith, q.below)) starts q.starts_to (omega arith)
      (o.1 (omega arith) ∙ ap (λ i. get_or starts i 0 % 4096) e)

  pub rule_room : {own a b x : ℕ} → own ≡ get_or starts n 0 % 4096 → a < 4096 → b < 4096 → x < 32 → RuleRoom own a b x
  rule_room e a b x = record {
    own_small = omega (arith, own_is e, few_variables q.fielded.laid.header {k = n} (omega (arith, q.below)));
    first_small = a;
    second_small = b;
    name_small = x;
  }

  pub rule_node : {kind own fa a fb b x : ℕ} {r : NodeWords} → kind ≡ (node_at (table_of bs).nodes n).kind → own ≡ get_or starts n 0 % 4096 →
      fa ≡ (node_at (table_of bs).nodes n).a → OperandVar starts n fa a → fb ≡ (node_at (table_of bs).nodes n).b → OperandVar starts n fb b →
      (fa < 32 → x ≡ fa) → RuleHeld kind own a b x r → NodeRule (table_of bs) n r
  rule_node {kind} {own} {a = a} {b = b} {x = x} ek eo ea oa eb ob ex h =
      let head = q.fielded.laid.header in
      let v : NodeRead (table_of bs) n kind own a b x = record {
        kind_is = ek;
        own_is = own_is eo;
        first_is = operand_is ea oa;
        second_is = operand_is eb ob;
        name_is = λ l. ex (omega arith) ∙ ea;
      } in
      node_words_law v (omega (arith, binds_length bs, head.identifiers)) (omega (arith, sizes_length bs, head.givens))
      (q.fielded.fields n q.below) h

-- Node n is the next.
module _ {bs : List ℕ} {at n : ℕ} {shapes eqns starts : List ℕ} (q : NextNode bs at n shapes eqns starts) where
  head : Header bs
  head = q.fielded.laid.header

  pub ready : ReadyNode bs at n starts
  ready = record { fielded = q.fielded; below = q.below; long = omega (arith, q.below, q.room.starts_room); starts_to = q.so_far.starts_are }

  own_count : {m : ℕ} → m ≡ get_or starts n 0 / 4096 → m ≡ length (equations (table_of bs) n)
  own_count = count_is_law head (omega (arith, q.below)) starts q.so_far.starts_are (omega arith)

  pub shapes_fit : {v : ℕ} → v ≡ get_or starts n 0 % 4096 → v + 6 ≤ length shapes
  shapes_fit e = omega (arith, own_is ready e, variables_fit head n, q.below, q.room.shapes_room)

  pub equations_fit : {m : ℕ} → m ≡ get_or starts n 0 / 4096 → m + 2 ≤ length eqns
  equations_fit e = omega (arith, own_count e, equations_bound (table_of bs) n, q.below, q.room.equations_room)

  module _ {r : NodeWords} (h : NodeRule (table_of bs) n r) where
    pub next_small : get_or starts n 0 + r.count < 4294967296
    next_small =
        omega (
          arith,
          start_next (table_of bs) n h (q.so_far.starts_are n (omega arith)),
          start_small head {k = suc n} q.below,
        )

    pub next_constrained : {shapes' eqns' : List ℕ} {v m : ℕ} → v ≡ get_or starts n 0 % 4096 → m ≡ get_or starts n 0 / 4096 →
        WordsCopied 6 r.shapes shapes shapes' v → WordsCopied 2 r.equations eqns eqns' m →
        Constrained (table_of bs) (n + 1) shapes' eqns' (set starts (n + 1) (get_or starts n 0 + r.count))
    next_constrained {shapes'} {eqns'} ev em cs ce =
        constrained_next (table_of bs) n h (omega (arith, nodes_length bs, q.below)) (q.fielded.fields n q.below)
        (omega (arith, few_variables head {k = suc n} q.below)) shapes shapes' eqns eqns' starts q.so_far
        (subst (λ u. WordsCopied 6 r.shapes shapes shapes' u) (own_is ready ev) cs) (subst (λ u. WordsCopied 2 r.equations eqns eqns' u) (own_count em) ce)
        (omega (arith, q.below, q.room.starts_room))

pub room_kept : {n : ℕ} {shapes eqns starts shapes' eqns' starts' : List ℕ} → NodeRoom n shapes eqns starts → length shapes' ≡ length shapes →
    length eqns' ≡ length eqns → length starts' ≡ length starts → NodeRoom n shapes' eqns' starts'
room_kept h a b c = record {
  shapes_room = omega (arith, h.shapes_room);
  equations_room = omega (arith, h.equations_room);
  starts_room = omega (arith, h.starts_room);
}
