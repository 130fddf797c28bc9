-- What a good value of the arena is to the functions below: it fits, has a type, and as a set can be an operand.
use Rattle.operations.proofs.Base.{ℕ, ◌≤◌, ◌<◌, Bool, true, ◌&&◌, List, ◌≡◌, arith, T, length}
use Rattle.operations.proofs.Terms.{Value, scalar, pair, set, Values, none, ◌▸◌, CellsFit, SomeAt, Rises, FineSet, SetBelow, ValueBelow, KnownFunction, Sizes, GoodAt, SomeGood, NewFirsts}
use Rattle.rules.specs.Cells.{well_formed, rising_all, precedes, good}
use Rattle.rules.proofs.Basics.{and_split}
use Rattle.rules.specs.Tables.{table_of}
use Rattle.rules.specs.Readable.{Readable}
use Rattle.laws.proofs.TableLaws.{sizes_length}
use Rattle.laws.proofs.CellsLaws.{size_below, encodable_well_formed, few_sizes, good_well_formed, good_weight, good_typed, weight_some}
use Rattle.arena.proofs.CodeLaws.{length_code, encodable_fits}
use Rattle.arena.proofs.EvenLaws.{typed_even}
use Rattle.arena.proofs.ValueParts.{value_eq}
use Rattle.sets.specs.Rows.{FineValue}
use Rattle.fitting.specs.Agree.{TypedAt, SomeTyped}
use Rattle.fitting.proofs.Cells.{typed_at}

-- The sizes of a readable table are small.
pub sizes_small : (bs : List ℕ) → Readable bs → Sizes (table_of bs).sizes
sizes_small bs r = record {
  few = omega (arith, sizes_length bs, r.header.givens);
  small = size_below (table_of bs).sizes 32 (λ g h. (r.records.sizes g h).1);
}

rising_rises : (gs : List ℕ) (s : Values) → T (rising_all gs s) → Rises s
rising_rises gs none h = tt
rising_rises gs (v ▸ vs) h =
    let (k, l) = and_split (well_formed gs v && precedes v vs) (rising_all gs vs) h in
    ((and_split (well_formed gs v) (precedes v vs) k).1, rising_rises gs vs l)

module _ {gs : List ℕ} (small : Sizes gs) where
  pub good_fits : (v : Value) → T (good gs v) → CellsFit v
  good_fits v h =
      encodable_fits v
      (encodable_well_formed gs (few_sizes gs small.few (λ g _. small.small g)) v (omega (arith, good_weight gs v h)) (good_well_formed gs v h))

  pub good_set : (vs : Values) → T (good gs (set vs)) → FineSet vs
  good_set vs h = record {
    fits = good_fits (set vs) h;
    light = good_weight gs (set vs) h;
    rises = rising_rises gs vs (good_well_formed gs (set vs) h);
    even = typed_even vs (good_typed gs (set vs) h);
  }

  pub good_fine : (v : Value) → T (good gs v) → FineValue v
  good_fine (scalar x) h = tt
  good_fine (pair v w) h = tt
  good_fine (set vs) h = good_set vs h

  module _ {s : List ℕ} {top at : ℕ} {v : Value} (h : GoodAt gs s top at v) where
    pub good_value : ValueBelow s top at v
    good_value = record { stands = h.stands; below = h.below; fits = good_fits v h.good; light = good_weight gs v h.good }

    pub good_typed_at : TypedAt s at v
    good_typed_at = typed_at s at v h.stands (good_fits v h.good) (good_typed gs v h.good)

    pub good_some : SomeAt s at
    good_some = record { value = v; stands = h.stands; fits = good_fits v h.good }

    -- Seen from a higher place, and from the arena's end.
    pub good_above : (k : ℕ) → top ≤ k → GoodAt gs s k at v
    good_above k le = record { stands = h.stands; below = omega (arith, h.below); good = h.good }

    pub good_whole : GoodAt gs s (length s) at v
    good_whole = record { stands = h.stands; below = omega (arith, h.stands.inside, length_code v); good = h.good }

    pub good_inside : at < length s
    good_inside = omega (arith, h.stands.inside, length_code v, weight_some v)

  pub good_set_at : {s : List ℕ} {top at : ℕ} (vs : Values) → GoodAt gs s top at (set vs) → SetBelow s top at vs
  good_set_at vs h = record { stands = h.stands; below = h.below; fine = good_set vs h.good }

-- What is asked of some good value.
pub some_typed : {s : List ℕ} {a : ℕ} → SomeGood s a → SomeTyped s a
some_typed p = (p.value, good_typed_at p.small p.stands)

pub some_inside : {s : List ℕ} {a : ℕ} → SomeGood s a → a < length s
some_inside p = good_inside p.small p.stands

-- Of a good value that is a function it is known where it stands.
pub function_known : {gs s : List ℕ} {top a : ℕ} {v : Value} {k : Bool} → Sizes gs → GoodAt gs s top a v → (k ≡ true → NewFirsts v) → KnownFunction s a k
function_known {s = s} {a = a} {v = v} small h g e vs b _ =
    g e vs (value_eq s a v (set vs) h.stands b.stands (good_fits small v h.good) b.fine.fits)
