-- Turns after each other: the loop over the stack, and the loop over the equations, which puts one after the other on the stack.
use Prim.Native.Nat.{ℕ, suc, ◌+◌, ◌-◌, ◌*◌, ◌<◌, ◌≤◌}
use mathlib.Core.List.{List}
use mathlib.Core.Path.{◌≡◌, refl, ◌∙◌, subst}
use native.Mathlib.Omega.{arith}
use lib.ListN.{get_or, length}
use Rattle.std.specs.Prelude.{Option, None, Result, Err}
use Rattle.std.specs.Option.{ok_or}
use Rattle.rules.specs.Types.{Ty}
use Rattle.unification.proofs.Counting.{count_le}
use Rattle.terms.specs.Words.{word_form, term_of}
use Rattle.terms.specs.Terms.{Terms, Satisfies, HoldsTo, SaysAlso}
use Rattle.classes.specs.Merging.{NoneTo, Mergeable}
use Rattle.classes.specs.declared.Clash.{Clash}
use Rattle.classes.specs.Finding.{shape_form, class_count}
use Rattle.classes.specs.Turning.{SidesTo, SaysStacked, SidesAgree, Turnable, TurnMerges, StackMergeable}
use Rattle.terms.proofs.SaysLaws.{from_self, old_trans, says_same}
use Rattle.classes.proofs.Stacks.{Same, one_more}

-- ---- turns after each other
-- The equation above the first h is taken off, and a turn is made with it.
module _ {n : ℕ} {ts₀ : List ℕ} {P : (ℕ → Ty) → Type 0} {ts stack : List ℕ} {h e : ℕ}
    (a : SaysStacked n ts₀ P ts stack (suc h)) (at : e ≡ get_or stack h 0) where
  holds_last : (θ : ℕ → Ty) → HoldsTo θ stack (suc h) → HoldsTo θ stack h × SidesAgree θ e
  holds_last θ k = ((λ i l. k i (omega arith)), rw at (k h (omega arith)))

  pub stack_then : {ts' stack' : List ℕ} {h' : ℕ} → SaysStacked n ts (λ θ. HoldsTo θ stack h × SidesAgree θ e) ts' stack' h' → SaysStacked n ts₀ P ts' stack' h'
  stack_then {ts'} b = record {
    terms = b.terms;
    sides = b.sides;
    iff = λ θ. (
      (λ x. let y = (a.iff θ).0 x in (b.iff θ).0 (y.0, holds_last θ y.1)),
      (λ x. let y = (b.iff θ).1 x in (a.iff θ).1 (y.0, one_more (Same θ) stack y.1.0 (rw at at y.1.1))),
    );
    old = old_trans ts₀ ts ts' a.old b.old;
  }

  pub stack_clash : ((θ : ℕ → Ty) → Satisfies θ n ts → SidesAgree θ e → ⊥) → (θ : ℕ → Ty) → Satisfies θ n ts₀ → P θ → ⊥
  stack_clash b θ s k = let x = (a.iff θ).0 (s, k) in b θ x.0 (holds_last θ x.1).1

module _ {n : ℕ} {ts₀ : List ℕ} {P : (ℕ → Ty) → Type 0} {ts stack : List ℕ} {h : ℕ} (a : SaysStacked n ts₀ P ts stack h) where
  pub stack_none : NoneTo n ts stack h → (θ : ℕ → Ty) → Satisfies θ n ts₀ → P θ → ⊥
  stack_none b θ s k = let x = (a.iff θ).0 (s, k) in b θ x.0 x.1

  pub stack_all : {ts' : List ℕ} → SaysAlso n ts (λ θ. HoldsTo θ stack h) ts' → SaysAlso n ts₀ P ts'
  stack_all {ts'} b = record {
    terms = b.terms;
    iff = λ θ. ((λ x. (b.iff θ).0 ((a.iff θ).0 x)), (λ x. (a.iff θ).1 ((b.iff θ).1 x)));
    old = old_trans ts₀ ts ts' a.old b.old;
  }

  pub stack_end : h ≡ 0 → SaysAlso n ts₀ P ts
  stack_end e = record {
    terms = a.terms;
    iff = λ θ. ((λ x. ((a.iff θ).0 x).0), (λ x. (a.iff θ).1 (x, (λ i l. absurd (omega arith)))));
    old = a.old;
  }

pub stack_start : {n : ℕ} {ts stack : List ℕ} {h : ℕ} → Terms n ts → SidesTo n stack h → SaysStacked n ts (λ θ. HoldsTo θ stack h) ts stack h
stack_start {n} {ts} t sides = record {
  terms = t;
  sides = sides;
  iff = λ θ. ((λ x. x), (λ x. x));
  old = λ v k. from_self ts (term_of (get_or ts v 0)) v k refl;
}

-- ---- the loop over the stack
pub record StackLoop (n : ℕ) (ts₀ : List ℕ) (P : (ℕ → Ty) → Type 0) (ts stack : List ℕ) (h : ℕ) : Type 0 where
  pub says : SaysStacked n ts₀ P ts stack h
  pub few : h + class_count n ts ≤ n + 1
  pub room : n + 2 ≤ length stack

pub loop_start : {n : ℕ} {ts stack : List ℕ} {h : ℕ} → StackMergeable n ts stack h → StackLoop n ts (λ θ. HoldsTo θ stack h) ts stack h
loop_start o = record { says = stack_start o.terms o.sides; few = o.few; room = o.room }

module _ {n : ℕ} {ts₀ : List ℕ} {P : (ℕ → Ty) → Type 0} {ts stack : List ℕ} {h e : ℕ} (a : StackLoop n ts₀ P ts stack h)
    (top : (0 < h) × (e ≡ get_or stack (h - 1) 0)) where
  len : length ts ≡ n
  len = a.says.terms.len

  last : SaysStacked n ts₀ P ts stack (suc (h - 1))
  last = subst (SaysStacked n ts₀ P ts stack) (omega arith) a.says

  pub loop_turnable : Turnable (length ts) ts stack (h - 1) e
  loop_turnable = rw len (record {
    terms = last.terms;
    sides = λ i l. last.sides i (omega arith);
    side = rw top.1 (last.sides (h - 1) (omega arith));
    room = omega (arith, a.few, a.room);
  })

  pub loop_clash : {ts' : List ℕ} → ((θ : ℕ → Ty) → Satisfies θ (length ts) ts → SidesAgree θ e → ⊥) × SaysAlso (length ts) ts (λ θ. Unit {0}) ts'
      → (θ : ℕ → Ty) → Satisfies θ n ts₀ → P θ → ⊥
  loop_clash b = stack_clash last top.1 (rw len at b.0)

  module _ {ts' stack' : List ℕ} {h' : ℕ} (b : TurnMerges (length ts) ts stack (h - 1) e ts' stack' h') where
    turned : TurnMerges n ts stack (h - 1) e ts' stack' h'
    turned = subst (λ m. TurnMerges m ts stack (h - 1) e ts' stack' h') len b

    pub loop_next : StackLoop n ts₀ P ts' stack' h'
    loop_next = record {
      says = stack_then last top.1 turned.merging;
      few = omega (arith, a.few, turned.falls, turned.small);
      room = omega (arith, a.room, turned.long);
    }

    pub loop_falls : 2 * class_count n ts' + h' < 2 * class_count n ts + h
    loop_falls = omega (arith, turned.falls)

-- ---- the loop over the equations
-- The clash that an error has, where a call answered none.
pub clash_told : {T : Type 0} {o : Option T} {d e : Clash} → o ≡ None → ◌≡◌ {A = Result T Clash} (Err e) (ok_or o d) → e ≡ d
clash_told {T} {o} {d} {e} n v = let w : ◌≡◌ {A = Result T Clash} (Err e) (Err d) = rw n at v in cc

pub all_clash : {n : ℕ} {ts₀ ts ts' : List ℕ} (es : List ℕ) {i : ℕ} → SaysAlso n ts₀ (λ θ. HoldsTo θ es i) ts → i < length es
    → ((θ : ℕ → Ty) → Satisfies θ (length ts) ts → SidesAgree θ (get_or es i 0) → ⊥) × SaysAlso (length ts) ts (λ θ. Unit {0}) ts'
    → (i < length es) × NoneTo n ts₀ es (suc i) × SaysAlso n ts₀ (λ θ. HoldsTo θ es i) ts'
all_clash es {i} a some x =
    let y = rw a.terms.len at x in
    (some, (λ θ s k. y.0 θ ((a.iff θ).0 (s, (λ j l. k j (omega arith)))) (k i (omega arith))), says_same a y.1)

-- The terms ts say what the equations before i say; the one at i is next, and the stack is empty.
module _ {n : ℕ} {ts₀ es ts stack₀ stack : List ℕ} {i h : ℕ} (m : Mergeable n ts₀ stack₀ es) (a : SaysAlso n ts₀ (λ θ. HoldsTo θ es i) ts)
    (some : i < length es) (empty : (h ≡ 0) × (length stack ≡ length stack₀)) where
  pub all_turnable : Turnable (length ts) ts stack h (get_or es i 0)
  all_turnable = rw a.terms.len (record {
    terms = a.terms;
    sides = λ j l. absurd (omega arith);
    side = m.sides i some;
    room = omega (arith, m.room);
  })

  module _ {ts' stack' : List ℕ} {h' : ℕ} (b : TurnMerges (length ts) ts stack h (get_or es i 0) ts' stack' h') where
    all_turned : TurnMerges n ts stack h (get_or es i 0) ts' stack' h'
    all_turned = subst (λ k. TurnMerges k ts stack h (get_or es i 0) ts' stack' h') a.terms.len b

    all_says : SaysStacked n ts₀ (λ θ. HoldsTo θ es (suc i)) ts' stack' h'
    all_says =
        let t = all_turned.merging in
        record {
          terms = t.terms;
          sides = t.sides;
          iff = λ θ. (
            (λ x. let s = (a.iff θ).0 (x.0, (λ j l. x.1 j (omega arith))) in
                (t.iff θ).0 (s, ((λ j l. absurd (omega arith)), x.1 i (omega arith)))),
            (λ x. let y = (t.iff θ).1 x in
                let z = (a.iff θ).1 y.0 in (z.0, one_more (Same θ) es z.1 y.1.1)),
          );
          old = old_trans ts₀ ts ts' a.old t.old;
        }

    pub all_mergeable : StackMergeable (length ts') ts' stack' h'
    all_mergeable = rw all_says.terms.len (record {
      terms = all_says.terms;
      sides = all_says.sides;
      room = omega (arith, m.room, all_turned.long);
      few = omega (arith, all_turned.falls, all_turned.small, count_le (λ v. shape_form (word_form (get_or ts v 0))) n);
    })

    pub all_inside : NoneTo (length ts') ts' stack' h' → (i < length es) × NoneTo n ts₀ es (suc i)
    all_inside x = (some, stack_none all_says (rw all_says.terms.len at x))

    pub all_next : {ts'' : List ℕ} → SaysAlso (length ts') ts' (λ θ. HoldsTo θ stack' h') ts'' → SaysAlso n ts₀ (λ θ. HoldsTo θ es (suc i)) ts''
    all_next x = stack_all all_says (rw all_says.terms.len at x)

    pub all_long : length stack' ≡ length stack₀
    all_long = all_turned.long ∙ empty.1

pub all_start : {n : ℕ} {ts : List ℕ} (es : List ℕ) → Terms n ts → SaysAlso n ts (λ θ. HoldsTo θ es 0) ts
all_start {n} {ts} es t = record {
  terms = t;
  iff = λ θ. ((λ x. x.0), (λ x. (x, (λ i l. absurd (omega arith)))));
  old = λ v k. from_self ts (term_of (get_or ts v 0)) v k refl;
}

pub all_end : {n : ℕ} {ts₀ ts : List ℕ} (es : List ℕ) {i : ℕ} → SaysAlso n ts₀ (λ θ. HoldsTo θ es i) ts → i ≤ length es → length es ≤ i
    → SaysAlso n ts₀ (λ θ. HoldsTo θ es (length es)) ts
all_end {n} {ts₀} {ts} es {i} a h k = subst (λ (j : ℕ). SaysAlso n ts₀ (λ θ. HoldsTo θ es j) ts) (omega arith) a
