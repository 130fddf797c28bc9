-- Classes of variables. A class is named by one of its variables, and has that variable's shape.
use Rattle.std.specs.Prelude.{ℕ, zero, suc, ◌<◌, ◌≡◌, cond, List, [], ◌∷◌, ◌++◌, map, eqb, length, get_or}
use Rattle.rules.specs.Types.{Ty}
use Rattle.unification.specs.Problem.{Shape, Matches}

pub record Graph : Type 0 where
  pub cls : ℕ → ℕ
  pub sh : ℕ → Shape

-- θ is one type for each class, of the class's shape.
pub record Sat (θ : ℕ → Ty) (g : Graph) : Type 0 where
  pub same : (v : ℕ) → θ v ≡ θ (g.cls v)
  pub fits : (v : ℕ) → g.cls v ≡ v → Matches θ (g.sh v) (θ v)

abbrev pub Idem : Graph → Type 0
Idem g = (v : ℕ) → g.cls (g.cls v) ≡ g.cls v

-- A variable past the end is its own class.
abbrev pub look : List ℕ → ℕ → ℕ
look cls v = get_or cls v v

abbrev pub graph : (ℕ → Shape) → List ℕ → Graph
graph sh l = record { cls = look l; sh = sh }

-- A list of the classes of n variables.
pub record ClassList (sh : ℕ → Shape) (n : ℕ) (l : List ℕ) : Type 0 where
  pub len : length l ≡ n
  pub idem : Idem (graph sh l)
  pub bound : (v : ℕ) → v < n → look l v < n

-- Each variable is its own class.
unfoldable pub own_classes : ℕ → List ℕ
own_classes zero = []
own_classes (suc n) = own_classes n ++ (n ∷ [])

abbrev pub change : ℕ → ℕ → ℕ → ℕ
change p q c = cond (eqb c p) q c

-- The class p goes into the class q.
abbrev pub relabel : ℕ → ℕ → List ℕ → List ℕ
relabel p q l = map (change p q) l
