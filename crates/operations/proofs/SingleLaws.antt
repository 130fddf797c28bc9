-- The operations of one operand. For an operand that passes the operation's test it is enough to look at sets, or at sets of pairs; the answer then
-- tells what the node gives by what has been made, by where the least member stands, or by a cell.
use Rattle.operations.proofs.Base.{ℕ, ◌+◌, ◌%◌, ◌≤◌, Bool, true, false, not, List, [], ◌∷◌, Option, Some, ◌≢◌, ◌≡◌, refl, ap, sym, subst, ◌∙◌, arith, le-leb, not-true, not-false, pos, length, get_or}
use Rattle.operations.proofs.Terms.{Value, set, Values, none, ◌▸◌, int, members, count, weight, One, singleton, power, dom, ran, card, choice, one, t̂, û, P̂, ◌×̂◌, one_rule, fits, lacks, one_value, code, SetBelow, SomeRelation, SomeSet, SomeValue, Same, FitOne, Sizes, GoodAt, weighed, one_given, ended, GivenCell, Gives, OneReady, OneDone, OneOf, side_kind, NodeAnswer, Built, Within, Cell, Ok, Err, Unlike, NoValue}
use Rattle.arena.proofs.Standing.{same_refl, first_stands}
use Rattle.arena.proofs.ValueParts.{first_cell_law}
use Rattle.products.specs.Growing.{Singles}
use Rattle.parts.specs.Parts.{Domains, Ranges}
use Rattle.powers.specs.Power.{Powers}
use Rattle.powers.proofs.PowerLaws.{members_count}
use Rattle.fitting.specs.Agree.{SomeTyped}
use Rattle.fitting.proofs.Cells.{members_stand}
use Rattle.operations.proofs.GoodLaws.{good_value, good_typed_at}
use Rattle.operations.proofs.OutcomeLaws.{Makes, makes_frame, makes_gives}
use Rattle.operations.proofs.FitLaws.{fit_types, on_set, one_any, one_fits, one_set, one_relation}
use Rattle.laws.proofs.KindLaws.{code_of, code_of_law, same_kind}

pub fits_is_set : (v : Value) → fits (P̂ t̂ ∷ []) (v ∷ []) ≡ true → (vs : Values) × (v ≡ set vs)
fits_is_set v e = let x = fit_types (P̂ t̂ ∷ []) (v ∷ []) e in on_set (λ y. (vs : Values) × (y ≡ set vs)) v x.0 x.2.0 (λ vs _. (vs, refl))

-- The operand that the functions below ask for, with room to build.
module _ {s : List ℕ} {a top : ℕ} (p : OneReady s a top) where
  pub ready_value : SomeValue s top a × (top + 514 ≤ length s)
  ready_value = ((p.value, good_value p.small p.operand), p.room)

  pub ready_typed : SomeTyped s a
  ready_typed = (p.value, good_typed_at p.small p.operand)

  pub ready_set : {r : Bool} → FitOne (P̂ t̂ ∷ []) s a r → not r ≡ false → SomeSet s top a × (top + 514 ≤ length s)
  ready_set f e = (one_set p.small p.operand (λ _. SomeSet s top a) f e (λ vs k. (vs, k)), p.room)

  pub ready_pairs : {r : Bool} → FitOne (P̂ (t̂ ×̂ û) ∷ []) s a r → not r ≡ false → SomeRelation s top a × (top + 514 ≤ length s)
  ready_pairs f e = (one_relation p.small p.operand (λ _. SomeRelation s top a) f e (λ vs k q. (vs, k, q)), p.room)

-- The answer for an operand that does not fit, and for one that does.
module _ (j : One) {s : List ℕ} {a top : ℕ} {r : Bool} (f : FitOne (one_rule j).takes s a r) where
  pub one_unlike : not r ≡ true → OneDone j s a top s (Err Unlike)
  unfolding one_given
  one_unlike e = record { frame = same_refl top s; answer = λ gs v small h. rw (one_fits small h (one_rule j).takes f ∙ not-true r e) }

  module _ (e : not r ≡ false) {s' : List ℕ} {o : NodeAnswer} where
    one_told : Same top s s' → ((gs : List ℕ) (v : Value) → Sizes gs → GoodAt gs s top a v → Gives s' top top (weighed (one_value j v)) o) →
        OneDone j s a top s' o
    unfolding one_given
    one_told same m = record { frame = same; answer = λ gs v small h. rw (one_fits small h (one_rule j).takes f ∙ not-false r e) (m gs v small h) }

    one_made : (end : Option ℕ) → OneReady s a top → ((gs : List ℕ) (v : Value) → Sizes gs → GoodAt gs s top a v → Makes top s s' end (one_value j v)) →
        o ≡ ended end → OneDone j s a top s' o
    one_made end p m z =
        one_told (makes_frame top s s' end (one_value j p.value) (m p.sizes p.value p.small p.operand))
        (λ gs v small h. makes_gives top s s' end top (one_value j v) (m gs v small h) z)

module _ {s s' : List ℕ} {a top : ℕ} {end : Option ℕ} {o : NodeAnswer} (p : OneReady s a top) where
  pub singleton_done : Singles s a top s' end → o ≡ ended end → OneDone singleton s a top s' o
  unfolding one_value
  singleton_done m z = one_made singleton one_any refl end p (λ gs v small h. m v (good_value small h)) z

  pub power_done : {r : Bool} → FitOne (P̂ t̂ ∷ []) s a r → not r ≡ false → Powers s a top s' end → o ≡ ended end → OneDone power s a top s' o
  unfolding one_value
  power_done f e m z = one_made power f e end p (λ gs v small h. one_set small h (λ y. Makes top s s' end (one_value power y)) f e m) z

-- Parts of pairs are never too heavy.
module _ {s s' : List ℕ} {a top end : ℕ} (p : OneReady s a top) {r : Bool} (f : FitOne (P̂ (t̂ ×̂ û) ∷ []) s a r) (e : not r ≡ false) where
  pub domain_done : Domains s a top s' end → OneDone dom s a top s' (Ok (Built end))
  unfolding one_value
  domain_done m = one_made dom f e (Some end) p (λ gs v small h. one_relation small h (λ y. Makes top s s' (Some end) (one_value dom y)) f e m) refl

  pub range_done : Ranges s a top s' end → OneDone ran s a top s' (Ok (Built end))
  unfolding one_value
  range_done m = one_made ran f e (Some end) p (λ gs v small h. one_relation small h (λ y. Makes top s s' (Some end) (one_value ran y)) f e m) refl

pub side_unlike : (right : Bool) {s : List ℕ} {a top : ℕ} {r : Bool} → FitOne (P̂ (t̂ ×̂ û) ∷ []) s a r → not r ≡ true →
    OneDone (side_kind right) s a top s (Err Unlike)
side_unlike true f e = one_unlike ran f e
side_unlike false f e = one_unlike dom f e

-- The number of members as a cell.
card_cell : (vs : Values) (n : ℕ) → n ≡ count vs → GivenCell (weighed (one_value card (set vs))) (6442450944 + n)
unfolding one_value code
card_cell vs n e = record {
  value = int (pos (length (members vs)));
  is = refl;
  cell = ap (λ (x : ℕ). x ∷ []) (omega (arith, members_count vs));
}

-- The least member of a set is its first.
choice_empty : (vs : Values) → count vs ≡ 0 → one_value choice (set vs) ≡ lacks 16
unfolding one_value
choice_empty none e = refl
choice_empty (v ▸ vs) e = absurd (omega arith)

choice_first : (s : List ℕ) (a top : ℕ) (vs : Values) → SetBelow s top a vs → count vs ≢ 0 →
    Gives s top top (weighed (one_value choice (set vs))) (Ok (Within (a + 1)))
unfolding one_value
choice_first s a top none h n = absurd (n refl)
choice_first s a top (v ▸ vs) h n = record {
  value = v;
  is = rw (le-leb (weight v) 256 (omega (arith, h.fine.light)));
  stands = first_stands s (a + 1) v vs (members_stand s a (v ▸ vs) h.stands);
  below = omega (arith, h.below);
}

module _ {s : List ℕ} {a top : ℕ} {r : Bool} (f : FitOne (P̂ t̂ ∷ []) s a r) (e : not r ≡ false) (n : ℕ) (c : n ≡ get_or s a 0 % 4294967296) where
  counted : (vs : Values) → SetBelow s top a vs → n ≡ count vs
  counted vs k = c ∙ (first_cell_law s a (set vs) k.stands k.fine.fits).1

  pub card_done : OneDone card s a top s (Ok (Cell (6442450944 + n)))
  card_done =
      one_told card f e (same_refl top s)
      (λ gs v small h. one_set small h (λ y. Gives s top top (weighed (one_value card y)) (Ok (Cell (6442450944 + n)))) f e
      (λ vs k. card_cell vs n (counted vs k)))

  chosen : (o : NodeAnswer) → ((vs : Values) → SetBelow s top a vs → Gives s top top (weighed (one_value choice (set vs))) o) → OneDone choice s a top s o
  chosen o m =
      one_told choice f e (same_refl top s) (λ gs v small h. one_set small h (λ y. Gives s top top (weighed (one_value choice y)) o) f e m)

  pub choice_none : n ≡ 0 → OneDone choice s a top s (Err NoValue)
  choice_none z = chosen (Err NoValue) (λ vs k. ap weighed (choice_empty vs (sym (counted vs k) ∙ z)))

  pub choice_some : n ≢ 0 → OneDone choice s a top s (Ok (Within (a + 1)))
  choice_some z = chosen (Ok (Within (a + 1))) (λ vs k. choice_first s a top vs k (λ d. z (counted vs k ∙ d)))

-- By kind codes: the code is i's, or that of none but the last.
module _ {k a top : ℕ} {s s' : List ℕ} {o : NodeAnswer} where
  pub one_of : (i : One) → k ≡ code_of (one i) → OneDone i s a top s' o → OneOf k s a top s' o
  one_of i e d j f = subst (λ (h : One). OneDone h s a top s' o) (cc (same_kind k (one i) (one j) e f)) d

  pub one_last : k ≢ 27 → k ≢ 33 → k ≢ 35 → k ≢ 36 → k ≢ 38 → OneDone choice s a top s' o → OneOf k s a top s' o
  one_last n27 n33 n35 n36 n38 d singleton e = absurd (n27 (code_of_law k (one singleton) e))
  one_last n27 n33 n35 n36 n38 d power e = absurd (n33 (code_of_law k (one power) e))
  one_last n27 n33 n35 n36 n38 d dom e = absurd (n35 (code_of_law k (one dom) e))
  one_last n27 n33 n35 n36 n38 d ran e = absurd (n36 (code_of_law k (one ran) e))
  one_last n27 n33 n35 n36 n38 d card e = absurd (n38 (code_of_law k (one card) e))
  one_last n27 n33 n35 n36 n38 d choice e = d
