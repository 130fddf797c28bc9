-- What a visit keeps: the classes on the stack wait for their parts, each a part of the one below; the other marks stay.
use Rattle.std.specs.Prelude.{ℕ, zero, suc, ◌+◌, ◌*◌, ◌<◌, ◌≤◌, Bool, true, false, List, Result, Ok, Err, ◌≢◌, ◌≡◌, get_or, length}
use Rattle.rules.specs.Types.{Ty, weightᵀ}
use Rattle.unification.specs.Marks.{count_below}
use Rattle.terms.specs.Terms.{Satisfies, class_in}
use Rattle.terms.specs.declared.Stack.{Stack}
use Rattle.deciding.specs.Marking.{MarksSay}
use Rattle.deciding.specs.declared.Cycle.{Cycle}

abbrev pub NoTypes : (n : ℕ) (ts : List ℕ) → Type 0
NoTypes n ts = (θ : ℕ → Ty) → Satisfies θ n ts → ⊥

-- In types that satisfy the terms, p weighs less than c.
abbrev pub Lighter : (n : ℕ) (ts : List ℕ) (p c : ℕ) → Type 0
Lighter n ts p c = (θ : ℕ → Ty) → Satisfies θ n ts → weightᵀ (θ p) < weightᵀ (θ c)

abbrev pub is_zero : ℕ → Bool
is_zero zero = true
is_zero (suc k) = false

-- How many variables have the mark 0.
abbrev pub unmarked : ℕ → List ℕ → ℕ
unmarked n marks = count_below (λ v. is_zero (get_or marks v 0)) n

-- Class c waits for its parts.
pub record Waits (n : ℕ) (ts marks : List ℕ) (c : ℕ) : Type 0 where
  pub below : c < n
  pub class : class_in ts c ≡ c
  pub mark : get_or marks c 0 ≡ 127

pub record Visiting (n : ℕ) (ts marks stack : List ℕ) (h : ℕ) : Type 0 where
  pub rounds : ℕ
  pub sound : MarksSay n ts rounds marks
  pub len : length marks ≡ n
  pub room : n + 2 ≤ length stack
  pub count : h + unmarked n marks ≤ n
  pub waits : (i : ℕ) → i < h → Waits n ts marks (get_or stack i 0)
  pub apart : (i j : ℕ) → i < j → j < h → get_or stack i 0 ≢ get_or stack j 0
  pub falls : (i j : ℕ) → i < j → j < h → Lighter n ts (get_or stack j 0) (get_or stack i 0)
  pub found : (v : ℕ) → v < n → get_or marks v 0 ≡ 127 → (i : ℕ) × (i < h) × (get_or stack i 0 ≡ v)

-- The first i marks are 0.
abbrev pub Cleared : (marks : List ℕ) (i : ℕ) → Type 0
Cleared marks i = (v : ℕ) → v < i → get_or marks v 0 ≡ 0

-- No class waits.
pub record Resting (n : ℕ) (ts marks : List ℕ) : Type 0 where
  pub rounds : ℕ
  pub sound : MarksSay n ts rounds marks
  pub len : length marks ≡ n
  pub still : (v : ℕ) → v < n → get_or marks v 0 ≢ 127

-- What is marked stays so.
abbrev pub Grows : (n : ℕ) (marks marks' : List ℕ) → Type 0
Grows n marks marks' = (v : ℕ) → v < n → get_or marks v 0 ≢ 0 → get_or marks' v 0 ≢ 0

abbrev pub to_visit : (n : ℕ) (marks : List ℕ) (h : ℕ) → ℕ
to_visit n marks h = 2 * unmarked n marks + h

-- One turn of the visit goes from the height h to k.
pub record VisitGoes (n : ℕ) (ts marks : List ℕ) (h : ℕ) (marks' stack' : List ℕ) (k : ℕ) : Type 0 where
  pub goes : Visiting n ts marks' stack' k
  pub less : to_visit n marks' k < to_visit n marks h
  pub grows : Grows n marks marks'

-- So it does, from one stack to the next; or a class is part of itself.
abbrev pub VisitTurn : (n : ℕ) (ts marks : List ℕ) (before : Stack) (marks' : List ℕ) (after : Stack) → Result (Unit {0}) Cycle → Type 0
VisitTurn n ts marks before marks' after (Ok u) = VisitGoes n ts marks before.height marks' after.words.now after.height
VisitTurn n ts marks before marks' after (Err e) = NoTypes n ts

-- The stack is empty, and has room.
abbrev pub StackRoom : ℕ → Stack → Type 0
StackRoom n s = (s.height ≡ 0) × (n + 2 ≤ length s.words.now)

-- v is a class without a mark.
pub record VisitNext (n : ℕ) (ts marks : List ℕ) (v : ℕ) : Type 0 where
  pub below : v < n
  pub class : class_in ts v ≡ v
  pub bare : get_or marks v 0 ≡ 0

-- Class v and what it is made of have marks, and the stack is empty; or no types satisfy the terms.
abbrev pub VisitedAt : (n : ℕ) (ts marks marks' : List ℕ) (after : Stack) (v : ℕ) → Result (Unit {0}) Cycle → Type 0
VisitedAt n ts marks marks' after v (Ok u) = Resting n ts marks' × Grows n marks marks' × (get_or marks' v 0 ≢ 0) × StackRoom n after
VisitedAt n ts marks marks' after v (Err e) = NoTypes n ts

-- The classes below v have marks.
pub record MarkedTo (n : ℕ) (ts marks : List ℕ) (v : ℕ) : Type 0 where
  pub rest : Resting n ts marks
  pub each : (c : ℕ) → c < v → class_in ts c ≡ c → get_or marks c 0 ≢ 0

abbrev pub MarkedOn : (n : ℕ) (ts marks : List ℕ) (after : Stack) (v : ℕ) → Result (Unit {0}) Cycle → Type 0
MarkedOn n ts marks after v (Ok u) = MarkedTo n ts marks v × StackRoom n after
MarkedOn n ts marks after v (Err e) = NoTypes n ts
