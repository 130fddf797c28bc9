-- Equations taken off the stack, one in each turn.
use Rattle.std.specs.Prelude.{ℕ, ◌+◌, ◌*◌, ◌/◌, ◌%◌, ◌<◌, ◌≤◌, List, Option, Some, None, ◌↔◌, ◌≡◌, get_or, length}
use Rattle.rules.specs.Types.{Ty}
use Rattle.terms.specs.Words.{word_left, word_right, term_of}
use Rattle.terms.specs.Terms.{Terms, Satisfies, HoldsTo, TermFrom, SaysAlso}
use Rattle.terms.specs.declared.Stack.{Stack}
use Rattle.classes.specs.Merging.{NoneTo}
use Rattle.classes.specs.Finding.{class_count}

-- The first h equations are between variables below n.
abbrev pub SidesTo : ℕ → List ℕ → ℕ → Type 0
SidesTo n stack h = (i : ℕ) → i < h → (get_or stack i 0 / 4096 < n) × (get_or stack i 0 % 4096 < n)

-- The terms and the first h equations of the stack say what the terms ts₀ say together with P.
pub record SaysStacked (n : ℕ) (ts₀ : List ℕ) (P : (ℕ → Ty) → Type 0) (ts stack : List ℕ) (h : ℕ) : Type 0 where
  pub terms : Terms n ts
  pub sides : SidesTo n stack h
  pub iff : (θ : ℕ → Ty) → (Satisfies θ n ts₀ × P θ) ↔ (Satisfies θ n ts × HoldsTo θ stack h)
  pub old : (v : ℕ) → v < n → TermFrom n ts₀ (term_of (get_or ts v 0))

-- Equation e holds.
abbrev pub SidesAgree : (ℕ → Ty) → ℕ → Type 0
SidesAgree θ e = θ (e / 4096) ≡ θ (e % 4096)

-- There are c equations more on the stack: that of the first parts of s and t, and that of the second parts.
pub record Pushed (before : Stack) (s t c : ℕ) (after : Stack) : Type 0 where
  pub height : after.height ≡ before.height + c
  pub long : length after.words.now ≡ length before.words.now
  pub below : (i : ℕ) → i < before.height → get_or after.words.now i 0 ≡ get_or before.words.now i 0
  pub first : 0 < c → get_or after.words.now before.height 0 ≡ word_left s * 4096 + word_left t
  pub second : 1 < c → get_or after.words.now (before.height + 1) 0 ≡ word_right s * 4096 + word_right t

-- Equation e was taken off the stack.
pub record Turnable (n : ℕ) (ts stack : List ℕ) (h e : ℕ) : Type 0 where
  pub terms : Terms n ts
  pub sides : SidesTo n stack h
  pub side : (e / 4096 < n) × (e % 4096 < n)
  pub room : h + 2 ≤ length stack

-- At most two equations are on the stack for e.
pub record TurnMerges (n : ℕ) (ts stack : List ℕ) (h e : ℕ) (ts' stack' : List ℕ) (h' : ℕ) : Type 0 where
  pub merging : SaysStacked n ts (λ θ. HoldsTo θ stack h × SidesAgree θ e) ts' stack' h'
  pub falls : 2 * class_count n ts' + h' ≤ 2 * class_count n ts + h
  pub small : h' ≤ h + 2
  pub long : length stack' ≡ length stack

-- So it is; or e clashes, and nothing was joined.
abbrev pub TurnedTo : (n : ℕ) (ts : List ℕ) (before : Stack) (e : ℕ) (ts' : List ℕ) (after : Stack) → Option (Unit {0}) → Type 0
TurnedTo n ts before e ts' after (Some u) = TurnMerges n ts before.words.now before.height e ts' after.words.now after.height
TurnedTo n ts before e ts' after None = ((θ : ℕ → Ty) → Satisfies θ n ts → SidesAgree θ e → ⊥) × SaysAlso n ts (λ θ. Unit {0}) ts'

-- A class fewer for each equation more is room enough.
pub record StackMergeable (n : ℕ) (ts stack : List ℕ) (h : ℕ) : Type 0 where
  pub terms : Terms n ts
  pub sides : SidesTo n stack h
  pub room : n + 2 ≤ length stack
  pub few : h + class_count n ts ≤ n + 1

-- The stack is empty, and as long as before.
abbrev pub StackMerged : (n : ℕ) (ts : List ℕ) (before : Stack) (ts' : List ℕ) (after : Stack) → Option (Unit {0}) → Type 0
StackMerged n ts before ts' after (Some u) =
    SaysAlso n ts (λ θ. HoldsTo θ before.words.now before.height) ts' × (after.height ≡ 0) × (length after.words.now ≡ length before.words.now)
StackMerged n ts before ts' after None = NoneTo n ts before.words.now before.height
