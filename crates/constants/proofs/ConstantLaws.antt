-- The cells of constants: the code of a constant's value by its kind's code and its words, which are in range in a readable table; and the cells of
-- the nodes, one after the other.
use Prim.Native.Nat.{ℕ, zero, suc, ◌+◌, ◌*◌, ◌-◌, ◌%◌, ◌≤◌, ◌<◌}
use mathlib.Core.List.{List, [], ◌∷◌}
use mathlib.Core.Logic.{◌≢◌}
use mathlib.Core.Option.{Option, some}
use mathlib.Core.Path.{◌≡◌, refl, sym, ap, ◌∙◌, subst}
use native.Mathlib.Omega.{arith}
use native.Mathlib.Decide.{ℕ_discrete, dec_lt}
use lib.ListN.{length, get_or, set, length-set}
use lib.Seq.{get_or-set_same, get_or-set_other}
use Rattle.rules.specs.Types.{whole}
use Rattle.rules.specs.Kinds.{Kind, Leaf, identifier, given_set, element_of, literal, truth_const, empty_set, bool_set, leaf, kind_of, leaf_fields}
use Rattle.rules.specs.Tables.{Node, table_of, node_at, node_from, kind_at, field_words, word_at, node_count, nodes_at}
use Rattle.rules.specs.Readable.{Readable, KindRight, FieldsRight}
use Rattle.rules.specs.Cells.{signed}
use Rattle.rules.specs.Operations.{Env, leaf_value}
use Rattle.laws.proofs.CellsLaws.{bit_eqb, signed_high, signed_low}
use Rattle.laws.proofs.TableLaws.{nodes_length, nodes_entry, sizes_length}
use Rattle.arena.specs.Code.{excess, code, Stands, Same}
use Rattle.arena.proofs.Standing.{stands_frame}
use Rattle.constants.specs.Leaves.{Narrow, scalar_cell}
use Rattle.laws.proofs.KindLaws.{code_of_law, kind_of_law, same_leaf}
use Rattle.constants.proofs.CellLaws.{cell_element, cell_number, cell_truth}
use Rattle.constants.specs.Constants.{OneCell, leaf_at, CellOf, Constants, OnlyBelow}

-- The code of a constant's kind.
constant_code : (j : Leaf) (k : ℕ) → OneCell j → kind_of k ≡ some (leaf j) → (k ≢ 26 → (22 ≤ k) × (k ≤ 24)) × (k ≤ 26) × (22 ≤ k)
constant_code identifier k o e = absurd o
constant_code given_set k o e = absurd o
constant_code element_of k o e = let c : k ≡ 22 = code_of_law k (leaf element_of) e in (λ n. (omega arith, omega arith), omega arith, omega arith)
constant_code (literal whole) k o e = let c : k ≡ 23 = code_of_law k (leaf (literal whole)) e in (λ n. (omega arith, omega arith), omega arith, omega arith)
constant_code truth_const k o e = let c : k ≡ 24 = code_of_law k (leaf truth_const) e in (λ n. (omega arith, omega arith), omega arith, omega arith)
constant_code empty_set k o e = let c : k ≡ 26 = code_of_law k (leaf empty_set) e in (λ n. absurd (n c), omega arith, omega arith)
constant_code bool_set k o e = absurd o

excess_signed : (a : ℕ) → a < 4294967296 → excess (signed a) ≡ (a + 2147483648) % 4294967296
unfolding excess
excess_signed a h = go (dec_lt a 2147483648)
  where
    go : Dec (a < 2147483648) → excess (signed a) ≡ (a + 2147483648) % 4294967296
    go (yes l) =
        let e : 2147483648 + a ≡ (a + 2147483648) % 4294967296 = omega arith in
        ap excess (signed_low a l) ∙ e
    go (no l) =
        let e : 2147483647 - (4294967295 - a) ≡ (a + 2147483648) % 4294967296 = omega arith in
        ap excess (signed_high a (omega arith)) ∙ e

empty_value : (gs : List ℕ) (a b : ℕ) (ρ : Env) → code (leaf_value gs empty_set a b ρ) ≡ 21474836480 ∷ []
unfolding code leaf_value
empty_value gs a b ρ = refl

-- A constant is one cell.
pub leaf_one : (bs : List ℕ) (n : ℕ) (j : Leaf) (ρ : Env) → OneCell j → length (code (leaf_at bs n j ρ)) ≡ 1
unfolding code leaf_value
leaf_one bs n identifier ρ o = absurd o
leaf_one bs n given_set ρ o = absurd o
leaf_one bs n element_of ρ o = refl
leaf_one bs n (literal m) ρ o = refl
leaf_one bs n truth_const ρ o = refl
leaf_one bs n empty_set ρ o = refl
leaf_one bs n bool_set ρ o = absurd o

-- A word of a node.
pub node_word : (bs : List ℕ) (n : ℕ) → n < node_count bs → ((i : ℕ) → get_or bs i 0 < 256) → (node_at (table_of bs).nodes n).a < 4294967296
unfolding node_from
node_word bs n lt h =
    let i = 4 + (nodes_at bs + 16 * n) in
    let e : (node_at (table_of bs).nodes n).a ≡ word_at bs i = ap (λ (d : Node). d.a) (nodes_entry bs n lt) in
    omega (arith, e, h i, h (1 + i), h (2 + i), h (3 + i))

module _ (bs : List ℕ) (r : Readable bs) (n : ℕ) (lt : n < node_count bs) (bytes : (i : ℕ) → get_or bs i 0 < 256) where
  abbrev node : Node
  node = node_at (table_of bs).nodes n

  -- The words of a leaf are in range.
  leaf_right : (j : Leaf) → kind_at (table_of bs).nodes n ≡ some (leaf j) → FieldsRight (table_of bs) n (leaf_fields j) (field_words node)
  leaf_right j e = subst (λ (o : Option Kind). KindRight (table_of bs) n o (field_words node)) e (r.records.fields n (omega (arith, nodes_length bs)))

  element_small : kind_at (table_of bs).nodes n ≡ some (leaf element_of) → (node.a < 16) × (node.b < 32)
  element_small e =
      let f = leaf_right element_of e in
      let s = (r.records.sizes node.a f.0).1 in
      (omega (arith, f.0, sizes_length bs, r.header.givens), omega (arith, f.1.0, s))

  module _ {k : ℕ} (is : k ≡ node.kind) where
    at_code : {j : Leaf} → kind_at (table_of bs).nodes n ≡ some (leaf j) → kind_of k ≡ some (leaf j)
    at_code e = ap kind_of is ∙ e

    pub cell_empty : k ≡ 26 → CellOf bs n 21474836480
    cell_empty q j ρ e o =
        let d : empty_set ≡ j = same_leaf k empty_set j q (at_code e) in
        subst (λ (i : Leaf). code (leaf_at bs n i ρ) ≡ 21474836480 ∷ []) d (empty_value (table_of bs).sizes node.a node.b ρ)

    -- No constant's code.
    pub cell_low : k < 22 → CellOf bs n 0
    cell_low l j ρ e o = absurd (omega (arith, (constant_code j k o (at_code e)).2))

    pub cell_high : k ≢ 26 → 24 < k → CellOf bs n 0
    cell_high q l j ρ e o = absurd (omega (arith, ((constant_code j k o (at_code e)).0 q).1))

    -- An element, an integer or a truth.
    module _ (low : 22 ≤ k) (high : k ≤ 24) {a b : ℕ} (ea : a ≡ node.a) (eb : b ≡ node.b) where
      pub narrow : Narrow k a b
      narrow = record {
        first = omega (arith, ea, node_word bs n lt bytes);
        second = λ e. omega (arith, eb, (element_small (sym (ap kind_of is) ∙ kind_of_law k (leaf element_of) e)).1);
      }

      pub cell_scalar : (c : ℕ) → c ≡ scalar_cell k a b → CellOf bs n c
      unfolding leaf_value code
      cell_scalar c q identifier ρ e o = absurd o
      cell_scalar c q given_set ρ e o = absurd o
      cell_scalar c q element_of ρ e o =
          ap (λ (x : ℕ). x ∷ []) (omega (arith, q, cell_element k a b (code_of_law k (leaf element_of) (at_code e))))
      cell_scalar c q (literal whole) ρ e o =
          ap (λ (x : ℕ). x ∷ [])
          (omega (arith, q, excess_signed node.a (node_word bs n lt bytes), cell_number k a b (code_of_law k (leaf (literal whole)) (at_code e))))
      cell_scalar c q truth_const ρ e o =
          let z : k ≡ 24 = code_of_law k (leaf truth_const) (at_code e) in
          ap (λ (x : ℕ). x ∷ [])
          (omega (arith, q, bit_eqb node.a (leaf_right truth_const e).0, cell_truth k a b (λ d. omega arith) (λ d. omega arith)))
      cell_scalar c q empty_set ρ e o = let z : k ≡ 26 = code_of_law k (leaf empty_set) (at_code e) in absurd (omega arith)
      cell_scalar c q bool_set ρ e o = absurd o

-- The pass over the nodes.
pub only_more : (i n x : ℕ) (s s' : List ℕ) → n < i → OnlyBelow i s s' → OnlyBelow i s (set s' n x)
only_more i n x s s' l h = record {
  same = λ k p. get_or-set_other s' n k x 0 (λ e. omega arith) ∙ h.same k p;
  kept = length-set s' n x ∙ h.kept;
}

-- One cell that is written is the value whose code it is.
cell_stands : (s : List ℕ) (n x : ℕ) → n < length s → (xs : List ℕ) → xs ≡ x ∷ [] → Stands (set s n x) n xs
cell_stands s n x l xs e = subst (λ (ys : List ℕ). Stands (set s n x) n ys) (sym e) (record { inside = omega (arith, length-set s n x); cells = at })
  where
    at : (i : ℕ) → i < 1 → get_or (set s n x) (n + i) 0 ≡ get_or (x ∷ []) i 0
    at zero p = ap (λ (k : ℕ). get_or (set s n x) k 0) (let z : n + 0 ≡ n = omega arith in z) ∙ get_or-set_same s n x 0 l
    at (suc i) p = absurd (omega arith)

-- Another stays.
cell_stays : (s : List ℕ) (n x m : ℕ) → m ≢ n → (xs : List ℕ) → length xs ≡ 1 → Stands s m xs → Stands (set s n x) m xs
cell_stays s n x m d xs one h = record {
  inside = omega (arith, length-set s n x, h.inside);
  cells = λ i p. get_or-set_other s n (m + i) x 0 (λ e. d (omega (arith, one))) ∙ h.cells i p;
}

pub more_put : (bs s : List ℕ) (n x : ℕ) → n < length s → CellOf bs n x → Constants bs n s → Constants bs (n + 1) (set s n x)
more_put bs s n x l c h m j ρ p e o = go (ℕ_discrete m n)
  where
    go : Dec (m ≡ n) → Stands (set s n x) m (code (leaf_at bs m j ρ))
    go (yes q) =
        subst (λ (k : ℕ). Stands (set s n x) k (code (leaf_at bs m j ρ))) (sym q)
        (cell_stands s n x l (code (leaf_at bs m j ρ)) (subst (λ (k : ℕ). CellOf bs k x) (sym q) c j ρ e o))
    go (no q) = cell_stays s n x m q (code (leaf_at bs m j ρ)) (leaf_one bs m j ρ o) (h m j ρ (omega (arith, q)) e o)

-- They stay where what is below `top` does.
pub constants_frame : (bs s s' : List ℕ) (i top : ℕ) → Same top s s' → i ≤ top → Constants bs i s → Constants bs i s'
constants_frame bs s s' i top e low c n j ρ lt k o =
    stands_frame top s s' n (code (leaf_at bs n j ρ)) e (omega (arith, leaf_one bs n j ρ o)) (c n j ρ lt k o)
