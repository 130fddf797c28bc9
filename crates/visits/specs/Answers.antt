-- What the evaluators answer for a run of the value rules. The values that a run forms do not matter to its answer.
use Rattle.std.specs.Prelude.{ℕ, ◌+◌, ◌*◌, ◌≤◌, ◌<◌, Bool, false, not, List, [], ◌∷◌, ◌≡◌, T, length, Option, Some, None, Result, Ok, Err}
use Rattle.std.specs.Bool.{beq}
use Rattle.rules.specs.Values.{Value, set, Values, members, count, weight, weights}
use Rattle.rules.specs.Cells.{good}
use Rattle.rules.specs.Ends.{End, done, refused}
use Rattle.rules.specs.Runs.{Run, Given, gives, lacks}
use Rattle.rules.specs.Rules.{quant_rule}
use Rattle.rules.specs.Fits.{fits}
use Rattle.rules.specs.Operations.{set_of}
use Rattle.rules.specs.Safety.{All}
use Rattle.arena.specs.Code.{ValueAt, ValuesAt}
use Rattle.operations.specs.Good.{GoodAt}
use Rattle.operations.specs.Outcomes.{NodeAnswer, lack_number, Gives}
use Rattle.operations.specs.declared.Outcome.{Outcome}
use Rattle.visits.specs.declared.Held.{Held}
use Rattle.visits.specs.declared.Held.TheVariants.{Truth, Refused}
use Rattle.visits.specs.declared.Formed.{Formed}
use Rattle.visits.specs.declared.Formed.TheVariants.{Value as Placed, Stopped}

-- A run's end, and the visits that the budget has left when it ends.
pub record EndsWith {A : Type 0} (x : Run A) (e : End A) (budget left : ℕ) : Type 0 where
  pub end : x.end ≡ e
  pub steps : x.steps + left ≡ budget

-- The answer for a condition.
abbrev pub HeldAs : Run Bool → ℕ → Held → Type 0
HeldAs x budget (Truth b l) = EndsWith x (done b) budget l
HeldAs x budget (Refused r l) = EndsWith x (refused r.number r.place) budget l

-- The answer for an expression: a good value that stands at `at`, below `next`.
pub record PlacedAs (x : Run Value) (budget : ℕ) (gs s : List ℕ) (at next left : ℕ) : Type 0 where
  pub value : Value
  pub ends : EndsWith x (done value) budget left
  pub place : GoodAt gs s next at value

abbrev pub FormedAs : Run Value → ℕ → List ℕ → List ℕ → Formed → Type 0
FormedAs x budget gs s (Placed at next l) = PlacedAs x budget gs s at next l
FormedAs x budget gs s (Stopped r l) = EndsWith x (refused r.number r.place) budget l

-- The value of a node of height h takes at most 256 cells, and 33 where h is 1: a leaf that is built is a set of at most 32 elements. (223 * h - 190 is
-- 33 for 1 and 256 for 2.)
abbrev pub FormedBounds : ℕ → ℕ → Formed → Type 0
FormedBounds h top (Placed at next l) = (top ≤ next) × (next ≤ top + 256) × (next + 190 ≤ top + 223 * h)
FormedBounds h top (Stopped r l) = Unit {0}

-- A refusal goes on as one of the other kind of node.
abbrev pub RefusalOf : Formed → Held → Type 0
RefusalOf (Placed at next l) h = Unit {0}
RefusalOf (Stopped r l) h = h ≡ Refused r l

abbrev pub StopOf : Held → Formed → Type 0
StopOf (Truth b l) f = Unit {0}
StopOf (Refused r l) f = f ≡ Stopped r l

-- The answer above a number of negations, which is odd where t is true.
abbrev pub turned_by : Bool → Held → Held
turned_by t (Truth b l) = Truth (not (beq b t)) l
turned_by t (Refused r l) = Refused r l

-- The range of a binder: the number of its members, or no set (15).
pub record RangeSet (v : Value) (n : ℕ) : Type 0 where
  pub members : Values
  pub is : v ≡ set members
  pub counted : n ≡ count members

abbrev pub RangeAs : Value → Option ℕ → Type 0
RangeAs v (Some n) = RangeSet v n
RangeAs v None = fits quant_rule.takes (v ∷ []) ≡ false

-- n good values stand from `from` on, below `top`.
pub record Listed (gs s : List ℕ) (top from n : ℕ) (vs : Values) : Type 0 where
  pub stands : ValuesAt s from vs
  pub counted : n ≡ count vs
  pub below : from + weights vs ≤ top
  pub good : All (λ v. T (good gs v)) (members vs)
  pub light : weights vs ≤ 255

-- The members that a comprehension selects make a set, built at `top`.
pub record SelectedAs (x : Run (List Value)) (budget : ℕ) (s : List ℕ) (top end left : ℕ) : Type 0 where
  pub chosen : List Value
  pub ends : EndsWith x (done chosen) budget left
  pub stands : ValueAt s top (set_of chosen)
  pub ending : end ≡ top + weight (set_of chosen)

abbrev pub ChosenAs : Run (List Value) → ℕ → List ℕ → ℕ → Formed → Type 0
ChosenAs x budget s top (Placed at next l) = SelectedAs x budget s top next l
ChosenAs x budget s top (Stopped r l) = EndsWith x (refused r.number r.place) budget l

abbrev pub ChosenBounds : ℕ → Formed → Type 0
ChosenBounds top (Placed at next l) = (top < next) × (next ≤ top + 256)
ChosenBounds top (Stopped r l) = Unit {0}

-- What a node gives, slid down to `top` where it has been built above.
pub record SettledAt (g : Given) (s : List ℕ) (left at next l : ℕ) : Type 0 where
  pub value : Value
  pub is : g ≡ gives value
  pub stands : ValueAt s at value
  pub below : at + weight value ≤ next
  pub same : l ≡ left

abbrev pub SettledAs : Given → List ℕ → ℕ → ℕ → Formed → Type 0
SettledAs g s node left (Placed at next l) = SettledAt g s left at next l
SettledAs g s node left (Stopped r l) = (g ≡ lacks r.number) × (r.place ≡ node) × (l ≡ left)

-- What an operation answers, a refusal by its number.
abbrev pub numbered : NodeAnswer → Result Outcome ℕ
numbered (Ok outcome) = Ok outcome
numbered (Err lack) = Err (lack_number lack)

-- What such an answer tells, whatever the number.
abbrev pub GivesNumbered : List ℕ → ℕ → ℕ → Given → Result Outcome ℕ → Type 0
GivesNumbered s mid top g (Ok outcome) = Gives s mid top g (Ok outcome)
GivesNumbered s mid top g (Err k) = g ≡ lacks k

pub record SettleReady (s : List ℕ) (r : Result Outcome ℕ) (mid next top : ℕ) : Type 0 where
  pub given : Given
  pub gives : GivesNumbered s mid next given r
  pub low : top ≤ mid
  pub high : mid ≤ top + 256
  pub order : mid ≤ next
  pub room : next + 514 ≤ length s
