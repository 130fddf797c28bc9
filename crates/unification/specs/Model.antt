-- Solving a problem as a function: the classes as a list, a loop over the equations left, and sweeps over the marks.
-- `model_solve_right` in proofs/ModelLaws.antt says what its answers mean.
use Rattle.std.specs.Prelude.{ℕ, zero, suc, ◌+◌, ◌*◌, Bool, true, false, cond, List, [], ◌∷◌, ◌++◌, eqb, ltb, length, replicate}
use Rattle.std.proofs.Math.Option.{Option, none as nothing, some}
use Rattle.rules.specs.Types.{Atom, Ty, atom, POW, ◌⊗◌, INTEGER, atom_code}
use Rattle.unification.specs.Problem.{Shape, unknown, leaf, power, product, Eqn, eqn}
use Rattle.unification.specs.Classes.{Graph, look, graph, own_classes, relabel}
use Rattle.unification.specs.Marks.{mark_one, sweep_to, marked}

-- What two shapes of one class leave: equations between their parts, or a clash.
pub data ShapeJoin : Type 0 where
  clash : ShapeJoin
  joined : List Eqn → ShapeJoin

abbrev pub same_code : Atom → Atom → Bool
same_code a b = eqb (atom_code a) (atom_code b)

abbrev pub join_leaf : Bool → ShapeJoin
join_leaf true = joined []
join_leaf false = clash

abbrev pub join : Shape → Shape → ShapeJoin
join unknown b = joined []
join (leaf i) unknown = joined []
join (leaf i) (leaf j) = join_leaf (same_code i j)
join (leaf i) (power v) = clash
join (leaf i) (product v w) = clash
join (power v) unknown = joined []
join (power v) (leaf j) = clash
join (power v) (power w) = joined (eqn v w ∷ [])
join (power v) (product w x) = clash
join (product v w) unknown = joined []
join (product v w) (leaf j) = clash
join (product v w) (power x) = clash
join (product v w) (product x y) = joined (eqn w y ∷ eqn v x ∷ [])

-- What one equation makes of the classes: none, or the new classes and the equations that it leaves.
pub data Step : Type 0 where
  stop : Step
  next : List ℕ → List Eqn → Step

abbrev pub is_unknown : Shape → Bool
is_unknown unknown = true
is_unknown (leaf k) = false
is_unknown (power v) = false
is_unknown (product v w) = false

abbrev pub after_join : List ℕ → ShapeJoin → Step
after_join l clash = stop
after_join l (joined es) = next l es

-- p and q are the classes of the two sides: is it one class, and is q's shape unknown?
abbrev pub step_on : (ℕ → Shape) → List ℕ → ℕ → ℕ → Bool → Bool → Step
step_on sh l p q true u = next l []
step_on sh l p q false true = next (relabel q p l) []
step_on sh l p q false false = after_join (relabel p q l) (join (sh p) (sh q))

unfoldable pub step : (ℕ → Shape) → List ℕ → ℕ → ℕ → Step
step sh l a b = step_on sh l (look l a) (look l b) (eqb (look l a) (look l b)) (is_unknown (sh (look l b)))

abbrev pub after_step : Step → List Eqn → (List ℕ → List Eqn → Option (List ℕ)) → Option (List ℕ)
after_step stop es f = nothing
after_step (next l new) es f = f l (new ++ es)

-- The classes of all equations. The first argument bounds the steps: 3 for each class and 1 for each equation are enough.
unfoldable pub unify : (ℕ → Shape) → ℕ → List ℕ → List Eqn → Option (List ℕ)
unfolding step
unify sh zero l [] = some l
unify sh zero l (e ∷ es) = nothing
unify sh (suc k) l [] = some l
unify sh (suc k) l (eqn a b ∷ es) = after_step (step sh l a b) es (unify sh k)

abbrev pub unless : Bool → (List ℕ → List ℕ) → List ℕ → List ℕ
unless true f m = m
unless false f m = f m

-- Sweeps over the marks until one marks nothing new, at most as many as the fourth argument says.
unfoldable pub settle : (ℕ → Shape) → List ℕ → ℕ → ℕ → List ℕ → List ℕ
unfolding sweep_to mark_one
settle sh l n zero m = m
settle sh l n (suc k) m = let m' = sweep_to sh l n m in unless (eqb (marked n m') (marked n m)) (settle sh l n k) m'

-- The problem has solutions where each variable is marked.
abbrev pub answer : Bool → List ℕ → List ℕ → Option (List ℕ × List ℕ)
answer false l m = nothing
answer true l m = some (l, m)

abbrev pub marks_of : (ℕ → Shape) → ℕ → Option (List ℕ) → Option (List ℕ × List ℕ)
marks_of sh n nothing = nothing
marks_of sh n (some l) = let m = settle sh l n (suc n) (replicate n 0) in answer (eqb (marked n m) n) l m

-- The shapes of the variables below n; nothing is known of the others.
abbrev pub within : ℕ → (ℕ → Shape) → ℕ → Shape
within n sh v = cond (ltb v n) (sh v) unknown

-- The classes and the marks of a problem, or nothing where it has no solution.
unfoldable pub model_solve : (ℕ → Shape) → ℕ → List Eqn → Option (List ℕ × List ℕ)
unfolding unify settle own_classes
model_solve sh n es = marks_of (within n sh) n (unify (within n sh) (3 * n + length es) (own_classes n) es)

abbrev pub build : (ℕ → Ty) → Ty → Shape → Ty
build f t unknown = t
build f t (leaf a) = atom a
build f t (power v) = POW (f v)
build f t (product v w) = f v ⊗ f w

-- The type of v with ρ at unknown classes, to the depth k.
abbrev pub val : Graph → (ℕ → Ty) → ℕ → ℕ → Ty
val g ρ zero v = INTEGER
val g ρ (suc k) v = build (val g ρ k) (ρ (g.cls v)) (g.sh (g.cls v))

-- The type of v with INTEGER at unknown classes.
unfoldable pub type_from : (ℕ → Shape) → List ℕ → ℕ → ℕ → Ty
type_from sh l k v = val (graph sh l) (λ x. INTEGER) k v
