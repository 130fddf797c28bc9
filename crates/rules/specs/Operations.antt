-- Document 01, "Values and evaluation": what each kind gives for its operands' values, with refusals 16 and 17. Application is
-- document 02's, N2.
use Prim.Native.Nat.{ℕ, zero, suc, Ordering}
use Rattle.std.specs.Prelude.{List, [], ◌∷◌, ◌++◌, map, Bool, true, false, ◌&&◌, ◌||◌, not, cond, ℤ, pos, negsuc, ◌+ℤ◌, ◌-ℤ◌, eqb, get_or, length}
use Rattle.std.specs.Bool.{beq}
use Rattle.std.proofs.Math.Option.{Option, none as nothing, some}
use Rattle.std.specs.Int.Signed.{le_z}
use Rattle.rules.specs.Types.{Number}
use Rattle.rules.specs.Values.{num, element, Value, scalar, pair, set, none, int, truth_value}
use Rattle.rules.specs.Values.{members, values, payload, order, same}
use Rattle.rules.specs.Kinds.{Join, and, or, implies, iff, Test, equal, member, subset, at_most}
use Rattle.rules.specs.Kinds.{Leaf, identifier, given_set, element_of, literal, truth_const, empty_set, bool_set}
use Rattle.rules.specs.Kinds.{One, singleton, power, dom, ran, card, choice}
use Rattle.rules.specs.Kinds.{Two, pairing, union, inter, diff, product, apply, plus, minus, interval}
use Rattle.rules.specs.Cells.{signed, in_range}
use Rattle.rules.specs.Runs.{Given, gives, lacks}

-- The parts of a pair, and the members of a set; what other values have there does not matter.
abbrev pub left : Value → Value
left (scalar s) = scalar s
left (pair v w) = v
left (set s) = set s

abbrev pub right : Value → Value
right (scalar s) = scalar s
right (pair v w) = w
right (set s) = set s

abbrev pub elems : Value → List Value
elems (scalar s) = []
elems (pair v w) = []
elems (set s) = members s

-- The set whose members rise in the list's order.
abbrev pub set_of : List Value → Value
set_of vs = set (values vs)

abbrev pub placed : Ordering → Value → Value → List Value → List Value → List Value
placed Ordering.lt v w ws r = v ∷ w ∷ ws
placed Ordering.eq v w ws r = w ∷ ws
placed Ordering.gt v w ws r = w ∷ r

unfoldable pub insert : Value → List Value → List Value
unfolding order
insert v [] = v ∷ []
insert v (w ∷ ws) = let r = insert v ws in placed (order v w) v w ws r

-- A list's members, rising and without repeats.
unfoldable pub rising : List Value → List Value
unfolding insert
rising [] = []
rising (v ∷ vs) = insert v (rising vs)

unfoldable pub is_in : Value → List Value → Bool
unfolding same
is_in v [] = false
is_in v (w ∷ ws) = let r = is_in v ws in same v w || r

unfoldable pub all_in : List Value → List Value → Bool
unfolding is_in
all_in [] ws = true
all_in (v ∷ vs) ws = let r = all_in vs ws in is_in v ws && r

abbrev pub kept_value : Bool → Value → List Value → List Value
kept_value true v r = v ∷ r
kept_value false v r = r

unfoldable pub keep : (Value → Bool) → List Value → List Value
keep p [] = []
keep p (v ∷ vs) = kept_value (p v) v (keep p vs)

-- Whether some value of a list passes a test.
unfoldable pub any_of : (Value → Bool) → List Value → Bool
any_of p [] = false
any_of p (v ∷ vs) = let r = any_of p vs in p v || r

unfoldable pub pairs_of : List Value → List Value → List Value
pairs_of [] ws = []
pairs_of (v ∷ vs) ws = map (pair v) ws ++ pairs_of vs ws

unfoldable pub subsets : List Value → List (List Value)
subsets [] = [] ∷ []
subsets (v ∷ vs) = let r = subsets vs in r ++ map (λ s. v ∷ s) r

-- n integers from i on
unfoldable pub up_from : ℤ → ℕ → List Value
up_from i zero = []
up_from i (suc n) = int i ∷ up_from (i +ℤ pos 1) n

-- A number of integers, none below zero.
abbrev pub to_count : ℤ → ℕ
to_count (pos n) = n
to_count (negsuc n) = 0

-- the n elements of the given set g from k on
unfoldable pub elements_from : ℕ → ℕ → ℕ → List Value
elements_from g k zero = []
elements_from g k (suc n) = scalar (element g k) ∷ elements_from g (suc k) n

-- 1, 2 and 3 skip q where p decides.
abbrev pub decides : Join → Bool → Option Bool
decides and p = elim p [ true ↦ nothing | false ↦ some false ]
decides or p = elim p [ true ↦ some true | false ↦ nothing ]
decides implies p = elim p [ true ↦ nothing | false ↦ some true ]
decides iff p = nothing

-- 1, 2, 3 and 5
abbrev pub joined : Join → Bool → Bool → Bool
joined and p q = p && q
joined or p q = p || q
joined implies p q = not p || q
joined iff p q = beq p q

-- 6 to 9
unfoldable pub holds : Test → Value → Value → Bool
unfolding is_in all_in same
holds equal v w = same v w
holds member v w = is_in v (elems w)
holds subset v w = all_in (elems v) (elems w)
holds (at_most n) v w = le_z (payload v) (payload w)

-- The values of the identifiers.
abbrev pub Env : Type 0
Env = ℕ → Value

infix 90 ◌with◌≔◌
abbrev pub ◌with◌≔◌ : Env → ℕ → Value → Env
ρ with x ≔ v = λ y. elim (eqb x y) [ true ↦ v | false ↦ ρ y ]

-- 20 to 24, 26 and 42
unfoldable pub leaf_value : List ℕ → Leaf → ℕ → ℕ → Env → Value
unfolding signed elements_from
leaf_value sizes identifier a b ρ = ρ a
leaf_value sizes given_set a b ρ = set_of (elements_from a 0 (get_or sizes a 0))
leaf_value sizes element_of a b ρ = scalar (element a b)
leaf_value sizes (literal n) a b ρ = scalar (num n (signed a))
leaf_value sizes truth_const a b ρ = truth_value (eqb a 1)
leaf_value sizes empty_set a b ρ = set none
leaf_value sizes bool_set a b ρ = set_of (truth_value false ∷ truth_value true ∷ [])

-- The least of a rising list; 16 where there is none.
abbrev pub least : List Value → Given
least [] = lacks 16
least (v ∷ vs) = gives v

-- Whether x is a pair with the first part e.
unfoldable pub paired_with : Value → Value → Bool
unfolding same
paired_with e x = same (left x) e

-- Document 02, N2: two different pairs that share a first part.
unfoldable pub shares_first : Value → Value → Bool
unfolding same
shares_first x y = not (same x y) && same (left x) (left y)

-- A function: no two different pairs of it share a first part, wherever they stand.
unfoldable pub is_function : Value → Bool
unfolding any_of shares_first
is_function f = not (any_of (λ x. any_of (shares_first x) (elems f)) (elems f))

-- The value of a list of one; 16 where there is none, or more than one.
abbrev pub only_one : List Value → Given
only_one [] = lacks 16
only_one (v ∷ []) = gives v
only_one (v ∷ w ∷ ws) = lacks 16

-- 37: 16 unless f is a function and e is in its domain; otherwise the only u with (e, u) in f.
unfoldable pub applied : Value → Value → Given
unfolding is_function keep paired_with
applied f e = cond (is_function f) (only_one (map right (keep (paired_with e) (elems f)))) (lacks 16)

-- 17: a sum or difference stays within 32 bits.
abbrev pub ranged : Number → ℤ → Given
ranged n i = cond (in_range i) (gives (scalar (num n i))) (lacks 17)

-- 27, 33, 35, 36, 38 and 43
unfoldable pub one_value : One → Value → Given
unfolding rising subsets
one_value singleton v = gives (set_of (v ∷ []))
one_value power v = gives (set_of (rising (map set_of (subsets (elems v)))))
one_value dom v = gives (set_of (rising (map left (elems v))))
one_value ran v = gives (set_of (rising (map right (elems v))))
one_value card v = gives (int (pos (length (elems v))))
one_value choice v = least (elems v)

-- 28 to 32, 37 and 39 to 41
unfoldable pub two_value : Two → Value → Value → Given
unfolding rising is_in keep pairs_of up_from applied
two_value pairing v w = gives (pair v w)
two_value union v w = gives (set_of (rising (elems v ++ elems w)))
two_value inter v w = gives (set_of (keep (λ x. is_in x (elems w)) (elems v)))
two_value diff v w = gives (set_of (keep (λ x. not (is_in x (elems w))) (elems v)))
two_value product v w = gives (set_of (pairs_of (elems v) (elems w)))
two_value apply v w = applied v w
two_value (plus n) v w = ranged n (payload v +ℤ payload w)
two_value (minus n) v w = ranged n (payload v -ℤ payload w)
two_value interval v w = gives (set_of (up_from (payload v) (to_count (payload w -ℤ payload v +ℤ pos 1))))
