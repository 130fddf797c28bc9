-- Terms as a graph of classes, the mark of a class from the marks of its parts, and what a mark says.
use Rattle.std.specs.Prelude.{ℕ, ◌+◌, ◌-◌, ◌*◌, ◌/◌, ◌%◌, ◌<◌, ◌≤◌, min, max, Bool, true, false, List, Option, Some, None, ◌≢◌, ◌⊎◌, ◌≡◌, get_or, length}
use Rattle.rules.specs.Types.{Ty, weightᵀ}
use Rattle.unification.specs.Problem.{Shape, unknown, leaf, power, product}
use Rattle.unification.specs.Classes.{Graph}
use Rattle.unification.specs.Marks.{status_after}
use Rattle.terms.specs.Words.{Term, known, link, term_of, word_form, word_right}
use Rattle.terms.specs.Terms.{Terms, Satisfies, SaysAlso, class_in, LinksToClasses}
use Rattle.terms.specs.Decided.{class_mark}

-- A link has no shape of its own.
abbrev pub term_shape : Term → Shape
term_shape (known s) = s
term_shape (link u) = unknown

abbrev pub word_shape : List ℕ → ℕ → Shape
word_shape ts v = term_shape (term_of (get_or ts v 0))

abbrev pub term_graph : List ℕ → Graph
term_graph ts = record { cls = class_in ts; sh = word_shape ts }

-- A link to a link becomes the further link; any other word stays.
abbrev pub FlattenedTo : List ℕ → ℕ → ℕ → Type 0
FlattenedTo ts w r = ((r ≡ w) × (word_form w ≡ 4 → word_form (get_or ts (word_right w) 0) ≢ 4))
    ⊎ ((word_form w ≡ 4) × (word_form (get_or ts (word_right w) 0) ≡ 4) × (r ≡ get_or ts (word_right w) 0))

-- The terms ts say what ts₀ say, and the links of the variables below v go to classes.
pub record FlatTo (n : ℕ) (ts₀ ts : List ℕ) (v : ℕ) : Type 0 where
  pub says : SaysAlso n ts₀ (λ θ. Unit {0}) ts
  pub flat : (u : ℕ) → u < v → class_in ts (class_in ts u) ≡ class_in ts u

-- Terms whose links go to classes.
pub record FlatTerms (n : ℕ) (ts : List ℕ) : Type 0 where
  pub terms : Terms n ts
  pub flat : LinksToClasses n ts

-- The mark of a class whose parts have the marks a and b: 128 where one of them is open, and the weight up to 65.
abbrev pub mark_over : ℕ → ℕ → ℕ
mark_over a b = 128 * max (a / 128) (b / 128) + min (a % 128 + b % 128 + 1) 65

-- The mark of a class, from the marks of variables.
abbrev pub mark_shape : (ℕ → ℕ) → Shape → ℕ
mark_shape f unknown = 129
mark_shape f (leaf a) = 1
mark_shape f (power v) = mark_over (f v) 0
mark_shape f (product v w) = mark_over (f v) (f w)

-- A mark that stays: not 0, and not that of a class whose parts are looked at.
abbrev pub Final : ℕ → Type 0
Final m = (m ≢ 0) × (m ≢ 127)

-- A test's answer.
abbrev pub Answered : Type 0 → Bool → Type 0
Answered P true = P
Answered P false = P → ⊥

abbrev pub EachPart : (ℕ → Type 0) → Shape → Type 0
EachPart P unknown = Unit {0}
EachPart P (leaf a) = Unit {0}
EachPart P (power v) = P v
EachPart P (product v w) = P v × P w

abbrev pub IsPart : ℕ → Shape → Type 0
IsPart p unknown = ⊥
IsPart p (leaf a) = ⊥
IsPart p (power v) = p ≡ v
IsPart p (product v w) = (p ≡ v) ⊎ (p ≡ w)

-- c is a class, and there is a mark for each variable.
pub record ClassAt (ts marks : List ℕ) (c : ℕ) : Type 0 where
  pub terms : Terms (length ts) ts
  pub below : c < length ts
  pub class : class_in ts c ≡ c
  pub len : length marks ≡ length ts

-- The marks of the parts leave room for their sum.
abbrev pub PartsSmall : (ts marks : List ℕ) → ℕ → Type 0
PartsSmall ts marks c = EachPart (λ v. class_mark ts marks v % 128 ≤ 65) (word_shape ts c)

abbrev pub PartsFinal : (ts marks : List ℕ) → ℕ → Type 0
PartsFinal ts marks c = EachPart (λ v. Final (class_mark ts marks v)) (word_shape ts c)

-- The class p of a part of c has no mark that stays.
pub record PartLeft (ts marks : List ℕ) (c p : ℕ) : Type 0 where
  pub part : ℕ
  pub is_part : IsPart part (word_shape ts c)
  pub class : p ≡ class_in ts part
  pub below : p < length ts
  pub bare : Final (get_or marks p 0) → ⊥

-- The class of part v has no mark that stays; none where it has one.
abbrev pub PartUnmarked : (ts marks : List ℕ) → ℕ → Option ℕ → Type 0
PartUnmarked ts marks v (Some p) = (p ≡ class_in ts v) × (p < length ts) × (Final (get_or marks p 0) → ⊥)
PartUnmarked ts marks v None = Final (class_mark ts marks v)

-- A part of c that is not marked, or all are marked.
abbrev pub NextPart : (ts marks : List ℕ) → ℕ → Option ℕ → Type 0
NextPart ts marks c (Some p) = PartLeft ts marks c p
NextPart ts marks c None = PartsFinal ts marks c

-- What the mark m says of v and its status: it is resolved, and ground where m is below 128; then m is its weight, up to 65.
pub record MarkFits (n : ℕ) (ts : List ℕ) (status v m : ℕ) : Type 0 where
  pub low : 1 ≤ m % 128
  pub high : m % 128 ≤ 65
  pub byte : m < 256
  pub grade : status ≡ 2 - m / 128
  pub weighs : m < 128 → (θ : ℕ → Ty) → Satisfies θ n ts → m ≡ min (weightᵀ (θ v)) 65

-- So it is after K rounds.
abbrev pub MarkSays : (n : ℕ) (ts : List ℕ) (K v m : ℕ) → Type 0
MarkSays n ts K v m = MarkFits n ts (status_after (term_graph ts) K v) v m

abbrev pub MarksSay : (n : ℕ) (ts : List ℕ) (K : ℕ) (marks : List ℕ) → Type 0
MarksSay n ts K marks = (c : ℕ) → c < n → Final (get_or marks c 0) → MarkSays n ts K c (get_or marks c 0)
