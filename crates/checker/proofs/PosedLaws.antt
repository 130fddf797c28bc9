-- The constraints of the nodes below k stand in the first parts of the arrays, as terms and equations that have the table's solutions.
use Prim.Native.Nat.{ℕ, suc, ◌+◌, ◌*◌, ◌/◌, ◌%◌, ◌≤◌, ◌<◌}
use mathlib.Core.Bool.{Bool, true, false}
use mathlib.Core.List.{List, [], ◌∷◌}
use mathlib.Core.Logic.{◌↔◌}
use mathlib.Core.Path.{◌≡◌, sym, ap, subst, ◌∙◌}
use native.Mathlib.Omega.{arith}
use lib.ListN.{get_or, length, take}
use lib.Seq.{get_or-take, length-take-le}
use Rattle.rules.specs.Types.{Ty}
use Rattle.rules.specs.Tables.{Table, table_of, node_count}
use Rattle.laws.proofs.TableLaws.{binds_length, nodes_length}
use Rattle.unification.specs.Problem.{Shape, Eqn, eqn, Matches, Holds, Solves, PartsBelow, AllBelow}
use Rattle.unification.specs.Solved.{LeafDeclared}
use Rattle.terms.specs.Words.{Term, known, link, term_of, ShapeWord, word_eqn}
use Rattle.terms.specs.Terms.{TermBelow, TermIn, MeetsTerm, Satisfies, HoldsTo, TermFrom, SaysAlso}
use Rattle.terms.specs.Decided.{TermDeclared, Decided}
use Rattle.typing.specs.Equations.{base, shape_at, equations, WellFormed, RightNodes, back}
use Rattle.typing.proofs.VariableLaws.{base_mono, base_bound}
use Rattle.typing.proofs.EquationCounts.{equations_bound, equations_mono, equations_grow}
use Rattle.typing.proofs.HoldsLaws.{HoldsOne, BelowOne, holds_at_law, holds_each, below_at}
use Rattle.typing.proofs.ProblemLaws.{well_formed_law, solves→meets}
use Rattle.typing.proofs.EquationsLaws.{typing→solves, solves→typing}
use Rattle.typing.proofs.Extending.{extends}
use Rattle.checker.specs.Solving.{Ready, WorkRoom, PartRoom, Typable, Untypable, TypableIs, Satisfiable, SolvedBelow}

-- A word that holds a shape may stand where the shape's parts are variables.
shape_in_law : {n v w : ℕ} {s : Shape} → ShapeWord w s → PartsBelow n s → TermIn n v w
shape_in_law {n} {v} {w} {s} e h = record { form = omega (arith, e.form); code = e.code; parts = subst (TermBelow n v) (sym e.term) h }

from_declared : (G n : ℕ) (ts : List ℕ) (sh : ℕ → Shape) → ((u : ℕ) → u < n → term_of (get_or ts u 0) ≡ known (sh u)) →
    ((u : ℕ) → u < n → LeafDeclared G (sh u)) → (t : Term) → TermFrom n ts t → TermDeclared G t
from_declared G n ts sh words leaves (known s) (u, l, e) = let q : sh u ≡ s = cc (words u l) in rw q at (leaves u l)
from_declared G n ts sh words leaves (link u) f = tt

-- Equations between variables whose types are the same hold alike.
holds_moved : (σ κ : ℕ → Ty) (n : ℕ) (es : List Eqn) → AllBelow n es → ((v : ℕ) → v < n → κ v ≡ σ v) → Holds σ es → Holds κ es
holds_moved σ κ n [] b old q = tt
holds_moved σ κ n (eqn v w ∷ es) b old q = (old v b.0 ∙ q.0 ∙ sym (old w b.1), holds_moved σ κ n es b.2 old q.1)

module _ {bs shapes eqns starts : List ℕ} (r : Ready bs shapes eqns starts) where
  abbrev tb : Table
  tb = table_of bs

  right : RightNodes tb
  right = r.readable.records.fields

  module _ {k : ℕ} (h : k ≤ node_count bs) where
    node_in : k ≤ length tb.nodes
    node_in = omega (arith, nodes_length bs)

    pub variables_fit : base tb k ≤ 32 + 6 * node_count bs
    variables_fit = omega (arith, base_bound tb k, binds_length bs, r.readable.header.identifiers)

    variables_few : base tb k ≤ 3104
    variables_few = omega (arith, variables_fit, r.readable.header.few_nodes)

    pub equations_fit : length (equations tb k) ≤ 2 * node_count bs
    equations_fit = omega (arith, equations_bound tb k)

    pub start_variable : get_or starts k 0 % 4096 ≡ base tb k
    start_variable = omega (arith, r.held.starts_are k h, variables_few)

    pub start_count : get_or starts k 0 / 4096 ≡ length (equations tb k)
    start_count = omega (arith, r.held.starts_are k h, variables_few)

    pub start_inside : k < length starts
    start_inside = omega (arith, r.room.starts_room)

    wf : WellFormed tb k
    wf = well_formed_law tb right k node_in

    -- The first n shapes: those of the variables below base k.
    module _ (n : ℕ) (en : base tb k ≤ n) where
      word_at_law : (v : ℕ) → v < base tb k → ShapeWord (get_or (take n shapes) v 0) (shape_at tb v)
      word_at_law v l = rw (get_or-take n shapes v 0 (omega arith)) (r.held.shapes_are v (omega (arith, base_mono tb {n = k} (node_count bs) h)))

      pub shapes_to : (θ : ℕ → Ty) → Satisfies θ n (take n shapes) → (v : ℕ) → v < base tb k → Matches θ (shape_at tb v) (θ v)
      shapes_to θ s v l = subst (λ t. MeetsTerm θ t (θ v)) (word_at_law v l).term (s v (omega arith))

    pub shapes_from : (θ : ℕ → Ty) → ((v : ℕ) → v < base tb k → Matches θ (shape_at tb v) (θ v)) → Satisfies θ (base tb k) (take (base tb k) shapes)
    shapes_from θ s v l = subst (λ t. MeetsTerm θ t (θ v)) (sym (word_at_law (base tb k) (omega arith) v l).term) (s v l)

    leaves_declared : (P : (ℕ → Ty) → Type 0) (ts : List ℕ) → SaysAlso (base tb k) (take (base tb k) shapes) P ts → (G : ℕ) →
        ((v : ℕ) → v < base tb k → LeafDeclared G (shape_at tb v)) → (v : ℕ) → v < base tb k → TermDeclared G (term_of (get_or ts v 0))
    leaves_declared P ts s G h v l =
        from_declared G (base tb k) (take (base tb k) shapes) (shape_at tb) (λ u g. (word_at_law (base tb k) (omega arith) u g).term) h
        (term_of (get_or ts v 0)) (s.old v l)

    -- A typing from what is solved.
    pub solved_typable : {ts marks : List ℕ} → SolvedBelow tb k ts marks → Typable tb k
    solved_typable s =
        let d = s.decided in (
          back tb k d.first,
          solves→typing tb right k node_in d.first ((s.iff d.first).1 d.first_fits)
              (λ v l. (d.declared (length tb.sizes) (s.leaves (length tb.sizes) wf.leaves) v).0),
        )

    -- The first m equations: those of the nodes below k and perhaps more.
    module _ (m : ℕ) (em : length (equations tb k) ≤ m) where
      equation_at : (i : ℕ) → i < length (equations tb k) → word_eqn (get_or (take m eqns) i 0) ≡ get_or (equations tb k) i (eqn 0 0)
      equation_at i l = rw (get_or-take m eqns i 0 (omega arith))
          (r.held.equations_are i (omega (arith, equations_mono tb {k = k} (node_count bs) h)) ∙ equations_grow tb {k = k} (node_count bs) i h l)

      pub holds_to : (θ : ℕ → Ty) → Holds θ (equations tb k) → (j : ℕ) → j ≤ length (equations tb k) → HoldsTo θ (take m eqns) j
      holds_to θ q j l i g = subst (HoldsOne θ) (sym (equation_at i (omega arith))) (holds_at_law θ (equations tb k) q i (omega arith))

      pub holds_from : (θ : ℕ → Ty) (j : ℕ) → length (equations tb k) ≤ j → HoldsTo θ (take m eqns) j → Holds θ (equations tb k)
      holds_from θ j l q = holds_each θ (equations tb k) (λ i g. subst (HoldsOne θ) (equation_at i g) (q i (omega arith)))

    -- All equations of the nodes below k.
    module _ {m : ℕ} (em : m ≡ length (equations tb k)) where
      pub count_is_law : length (take m eqns) ≡ m
      count_is_law = length-take-le m eqns (omega (arith, equations_fit, r.room.equations_room))

      abbrev AllHold : (ℕ → Ty) → Type 0
      AllHold θ = HoldsTo θ (take m eqns) (length (take m eqns))

      -- What merging takes.
      pub part_room : {n : ℕ} → n ≡ base tb k → (stack : List ℕ) → 34 + 6 * node_count bs ≤ length stack → PartRoom n shapes (take m eqns) stack
      part_room {n} en stack room = subst (λ j. PartRoom j shapes (take m eqns) stack) (sym en) (record {
        long = omega (arith, variables_fit, r.room.shapes_room);
        terms = record {
          len = length-take-le (base tb k) shapes (omega (arith, variables_fit, r.room.shapes_room));
          small = omega (arith, variables_few);
          each = λ v l. shape_in_law (word_at_law (base tb k) (omega arith) v l) (wf.parts v l);
        };
        sides = λ i l. subst (BelowOne (base tb k)) (sym (equation_at m (omega arith) i (omega (arith, count_is_law))))
            (below_at (base tb k) (equations tb k) wf.below i (omega (arith, count_is_law)));
        room = omega (arith, variables_fit, room);
      })

      -- The types of the terms with all equations are the solutions of the nodes below k.
      part_iff : (θ : ℕ → Ty) → (Satisfies θ (base tb k) (take (base tb k) shapes) × AllHold θ) ↔ Solves (shape_at tb) (base tb k) (equations tb k) θ
      part_iff θ = (
        (λ x. record {
          shapes = shapes_to (base tb k) (omega arith) θ x.0;
          equal = holds_from m (omega arith) θ (length (take m eqns)) (omega (arith, count_is_law)) x.1;
        }),
        (λ s. (shapes_from θ s.shapes, holds_to m (omega arith) θ s.equal (length (take m eqns)) (omega (arith, count_is_law)))),
      )

      -- Decided, they are solved.
      pub part_solved : {n : ℕ} → n ≡ base tb k → (ts marks : List ℕ) → SaysAlso n (take n shapes) AllHold ts → Decided n ts marks → SolvedBelow tb k ts marks
      part_solved {n} en ts marks s d =
          let s' : SaysAlso (base tb k) (take (base tb k) shapes) AllHold ts = subst (λ j. SaysAlso j (take j shapes) AllHold ts) en s in
          record {
            terms = s'.terms;
            decided = subst (λ j. Decided j ts marks) en d;
            iff = λ θ. ((λ q. (s'.iff θ).0 ((part_iff θ).1 q)), (λ q. (part_iff θ).0 ((s'.iff θ).1 q)));
            leaves = leaves_declared AllHold ts s';
          }

      -- No types, no typing.
      pub part_none : {n : ℕ} → n ≡ base tb k → Satisfiable n (take n shapes) (take m eqns) false → Untypable tb k
      part_none {n} en none κ t =
          let q = typing→solves tb right κ k node_in t in
          let x = (part_iff q.0).1 q.1 in
          subst (λ j. Satisfiable j (take j shapes) (take m eqns) false) en none q.0 x.0 x.1

      pub typable_is : {n : ℕ} → n ≡ base tb k → (b : Bool) → Satisfiable n (take n shapes) (take m eqns) b → TypableIs tb k b
      typable_is en true (ts, marks, s, d) = solved_typable (part_solved en ts marks s d)
      typable_is en false none = part_none en none

  -- The terms of all nodes with the first e equations, those of the nodes below j among them.
  module _ {n m : ℕ} (en : n ≡ base tb (node_count bs)) (em : m ≡ length (equations tb (node_count bs))) where
    all : node_count bs ≤ node_count bs
    all = omega arith

    module _ {e j : ℕ} (h : j ≤ node_count bs) (e_from : length (equations tb j) ≤ e) where
      -- Decided, they give a typing of those nodes.
      pub part_typable : (ts marks : List ℕ) → SaysAlso n (take n shapes) (λ θ. HoldsTo θ (take m eqns) e) ts → Decided n ts marks → Typable tb j
      part_typable ts marks s d =
          let x = (s.iff d.first).1 d.first_fits in
          let few : base tb j ≤ n = omega (arith, base_mono tb {n = j} (node_count bs) h) in
          let fit : length (equations tb j) ≤ m = omega (arith, equations_mono tb {k = j} (node_count bs) h) in
          let leaves = subst (λ i. SaysAlso i (take i shapes) (λ θ. HoldsTo θ (take m eqns) e) ts) en s in
          let known_leaves = leaves_declared all (λ θ. HoldsTo θ (take m eqns) e) ts leaves (length tb.sizes) (wf all).leaves in (
            back tb j d.first,
            solves→typing tb right j (node_in h) d.first
                (record { shapes = shapes_to h n few d.first x.0; equal = holds_from h m fit d.first e e_from x.1 })
                (λ v l. (d.declared (length tb.sizes) (λ u g. known_leaves u (omega arith)) v).0),
          )

    -- No types satisfy them with one equation more, of node j: then those of the nodes up to j have no typing, since later shapes ask nothing.
    pub clash_none : {e j : ℕ} → j < node_count bs → e < length (equations tb (suc j)) →
        ((θ : ℕ → Ty) → Satisfies θ n (take n shapes) → HoldsTo θ (take m eqns) (suc e) → ⊥) → Untypable tb (suc j)
    clash_none {e} {j} h l none κ t =
        let q = typing→solves tb right κ (suc j) (node_in h) t in
        let x = extends tb right (suc j) (node_count bs) h (node_in all) q.0 (solves→meets tb (suc j) q.0 (node_in h) q.1) in
        let fit : length (equations tb (suc j)) ≤ m = omega (arith, equations_mono tb {k = suc j} (node_count bs) h) in
        none x.0 (subst (λ i. Satisfies x.0 i (take i shapes)) (sym en) (shapes_from all x.0 x.1))
        (holds_to h m fit x.0 (moved q.0 x.0 q.1.equal x.2) (suc e) l)
      where
        moved : (σ κ' : ℕ → Ty) → Holds σ (equations tb (suc j)) → ((v : ℕ) → v < base tb (suc j) → κ' v ≡ σ v) → Holds κ' (equations tb (suc j))
        moved σ κ' q old = holds_moved σ κ' (base tb (suc j)) (equations tb (suc j)) (wf h).below old q

-- The parts of the arrays that the nodes below k take, by the entry of `starts`.
module _ {bs shapes eqns starts : List ℕ} (r : Ready bs shapes eqns starts) {k : ℕ} (h : k ≤ node_count bs) where
  pub counted : {m : ℕ} → m ≡ get_or starts k 0 / 4096 → m ≡ length (equations (table_of bs) k)
  counted e = e ∙ start_count r h

  pub equations_part : {m : ℕ} → m ≡ get_or starts k 0 / 4096 → m ≤ length eqns
  equations_part e = omega (arith, counted e, equations_fit r h, r.room.equations_room)

  module _ {terms stack marks : List ℕ} (w : WorkRoom bs terms stack marks) {v : ℕ} (e : v ≡ get_or starts k 0 % 4096) where
    few : v ≤ 32 + 6 * node_count bs
    few = omega (arith, e, start_variable r h, variables_fit r h)

    pub terms_part : v ≤ length terms
    terms_part = omega (arith, few, w.terms_room)

    pub stack_part : v ≤ length stack
    stack_part = omega (arith, few, w.stack_room)

    pub marks_part : v ≤ length marks
    marks_part = omega (arith, few, w.marks_room)

    pub terms_long : length (take v terms) ≡ base (table_of bs) k
    terms_long = length-take-le v terms terms_part ∙ e ∙ start_variable r h

    pub marks_long : length (take v marks) ≡ length (take v terms)
    marks_long = length-take-le v marks marks_part ∙ sym (length-take-le v terms terms_part)

-- What the code reads of the whole table: n nodes, v variables and m equations.
module _ {bs shapes eqns starts : List ℕ} (r : Ready bs shapes eqns starts) {n : ℕ} (en : n ≡ node_count bs) where
  whole : node_count bs ≤ node_count bs
  whole = omega arith

  count_read : {m : ℕ} → m ≡ get_or starts n 0 / 4096 → m ≡ get_or starts (node_count bs) 0 / 4096
  count_read e = e ∙ ap (λ k. get_or starts k 0 / 4096) en

  pub all_equations : {m : ℕ} → m ≡ get_or starts n 0 / 4096 → m ≡ length (equations (table_of bs) (node_count bs))
  all_equations e = counted r whole (count_read e)

  pub equations_inside : {m : ℕ} → m ≡ get_or starts n 0 / 4096 → m ≡ length (take m eqns)
  equations_inside {m} e = sym (length-take-le m eqns (equations_part r whole (count_read e)))

  module _ {terms stack marks : List ℕ} (w : WorkRoom bs terms stack marks) {v : ℕ} (ev : v ≡ get_or starts n 0 % 4096) where
    variable_read : v ≡ get_or starts (node_count bs) 0 % 4096
    variable_read = ev ∙ ap (λ k. get_or starts k 0 % 4096) en

    pub variables_are : v ≡ base (table_of bs) (node_count bs)
    variables_are = variable_read ∙ start_variable r whole

    pub terms_fit : v ≤ length terms
    terms_fit = terms_part r whole w variable_read

    pub stack_fit : v ≤ length stack
    stack_fit = stack_part r whole w variable_read

    pub marks_fit : v ≤ length marks
    marks_fit = marks_part r whole w variable_read

    pub terms_inside : v ≡ length (take v terms)
    terms_inside = sym (length-take-le v terms terms_fit)

    pub stack_inside : v ≡ length (take v stack)
    stack_inside = sym (length-take-le v stack stack_fit)

    pub marks_inside : v ≡ length (take v marks)
    marks_inside = sym (length-take-le v marks marks_fit)

    pub all_variables : length (take v terms) ≡ base (table_of bs) (node_count bs)
    all_variables = terms_long r whole w variable_read

    pub marks_beside : length (take v marks) ≡ length (take v terms)
    marks_beside = marks_long r whole w variable_read

    pub whole_room : {m : ℕ} → m ≡ get_or starts n 0 / 4096 →
        PartRoom (length (take v terms)) shapes (take m eqns) stack × (length (take v marks) ≡ length (take v terms))
    whole_room em = (part_room r whole (all_equations em) all_variables stack w.stack_room, marks_beside)
