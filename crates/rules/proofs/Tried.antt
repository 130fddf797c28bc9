-- Document 01, "Conditions tried": P1 to P12 from the rules themselves, for Check by the typings of each table, for Evaluate
-- by computation; one theorem over the rows. Then P7's weight, refusals 3 and 10 of P1, and the types of weight 64 and 65.
use Prim.Native.Nat.{ℕ, zero, suc, ◌≤◌, ◌<◌}
use mathlib.Core.List.{List, [], ◌∷◌}
use mathlib.Core.Option.{Option, none as nothing, some}
use mathlib.Core.Path.{◌≡◌, refl}
use mathlib.Core.Logic.{inl, inr}
use native.Mathlib.Omega.{arith}
use lib.ListN.{length, get_or, take}
use Rattle.rules.specs.Types.{Ty, POW, ◌⊗◌, INTEGER, BOOL, G, weightᵀ, Declared}
use Rattle.rules.specs.Values.{Value, weight}
use Rattle.rules.specs.Kinds.{Kind, kind_of, Category, predicate, expression, category_of, power}
use Rattle.rules.specs.Tables.{Table, kind_at}
use Rattle.rules.specs.Ends.{done, refused}
use Rattle.rules.specs.Readable.{CategoryIs}
use Rattle.rules.specs.Reading.{reading}
use Rattle.rules.specs.Runs.{gives}
use Rattle.rules.specs.Operations.{one_value}
use Rattle.rules.specs.Verdict.{node_place, Place, ObeysKind, Typing, AgreeAt, Only, type_limit, sheet_of, sheet_length}
use Rattle.rules.specs.Verdict.{Verdict, unreadable, misfit, clash, several, accepts}
use Rattle.rules.specs.Safety.{All}
use Rattle.rules.proofs.TypeLaws.{no_cycle}
use Rattle.rules.proofs.Rows.{to_bytes, words_of, sheet, z, pz, ppz, zz, pzz, p1, p2, p3, p4, p5, card_power, p8, p9, p10, p12}
use Rattle.rules.proofs.Rows.{one_to_six, Condition, conditions, RunsAsTold, conditions_run}
use Rattle.rules.proofs.Basics.{◌&◌, absurd01, all_both}

-- What holds of each number below n, one after the other.
abbrev Below : (ℕ → Type 0) → ℕ → Type 0
Below P zero = Unit {0}
Below P (suc n) = P 0 × Below (λ j. P (suc j)) n

each : (P : ℕ → Type 0) (n : ℕ) → Below P n → (j : ℕ) → j < n → P j
each P zero h j l = absurd (omega arith)
each P (suc n) h zero l = h.0
each P (suc n) h (suc j) l = each (λ j. P (suc j)) n h.1 j (omega arith)

collect : (P : ℕ → Type 0) (n : ℕ) → ((j : ℕ) → j < n → P j) → Below P n
collect P zero h = tt
collect P (suc n) h = (h 0 (omega arith), collect (λ j. P (suc j)) n (λ j l. h (suc j) (omega arith)))

-- What is asked of expressions only.
abbrev IfCategory : Category → Type 0 → Type 0
IfCategory predicate A = Unit {0}
IfCategory expression A = A

abbrev IfExpression : Option Kind → Type 0 → Type 0
IfExpression nothing A = Unit {0}
IfExpression (some k) A = IfCategory (category_of k) A

if_expression : (o : Option Kind) (A : Type 0) → IfExpression o A → CategoryIs expression o → A
if_expression nothing A h e = absurd e
if_expression (some k) A h e = rw e at h

-- What is asked of the identifiers and of the expressions holds of the places.
abbrev Places : Table → (ℕ → Type 0) → Type 0
Places tb F = Below F (length tb.binds) × Below (λ n. IfExpression (kind_at tb.nodes n) (F (node_place tb n))) (length tb.nodes)

at_place : (tb : Table) (F : ℕ → Type 0) → Places tb F → (p : ℕ) → Place tb p → F p
at_place tb F h p (inl l) = each F (length tb.binds) h.0 p l
at_place tb F h p (inr (n, l, c, e)) = rw e (if_expression (kind_at tb.nodes n) _ (each _ _ h.1 n l) c)

-- A typing as a list of the places' types.
abbrev types : List Ty → ℕ → Ty
types ts p = get_or ts p INTEGER

abbrev AllDeclared : ℕ → List Ty → Type 0
AllDeclared n [] = Unit {0}
AllDeclared n (t ∷ ts) = Declared n t × AllDeclared n ts

declared_types : (n : ℕ) (ts : List Ty) → AllDeclared n ts → (p : ℕ) → Declared n (types ts p)
declared_types n [] h p = tt
declared_types n (t ∷ ts) h zero = h.0
declared_types n (t ∷ ts) h (suc p) = declared_types n ts h.1 p

-- The nodes below k obey their rules.
abbrev Obeyed : Table → ℕ → (ℕ → Ty) → Type 0
Obeyed tb k θ = Below (λ n. ObeysKind tb θ n (kind_at tb.nodes n)) k

typing : (tb : Table) (k : ℕ) (ts : List Ty) → AllDeclared (length tb.sizes) ts → Obeyed tb k (types ts) → Typing tb k (types ts)
typing tb k ts d o = record { declared = λ p h. declared_types _ ts d p; obeyed = each _ k o }

-- What the rules say of any typing.
obeyed_by : (tb : Table) (k : ℕ) (κ : ℕ → Ty) → Typing tb k κ → Obeyed tb k κ
obeyed_by tb k κ t = collect _ k t.obeyed

-- A typing can only have these types at the places.
abbrev Alone : Table → List Ty → Type 0
Alone tb ts = (κ : ℕ → Ty) → Obeyed tb (length tb.nodes) κ → Places tb (λ p. κ p ≡ types ts p)

-- The first k nodes have no typing.
abbrev Untyped : Table → ℕ → Type 0
Untyped tb k = (κ : ℕ → Ty) → Obeyed tb k κ → ⊥

only : (tb : Table) (ts : List Ty) → AllDeclared (length tb.sizes) ts → Obeyed tb (length tb.nodes) (types ts) →
    Alone tb ts → Only tb (types ts)
only tb ts d o u = record {
  typing = typing tb (length tb.nodes) ts d o;
  alone = λ κ w. at_place tb (λ p. κ p ≡ types ts p) (u κ (obeyed_by tb (length tb.nodes) κ w));
}

abbrev AllLight : List Ty → Type 0
AllLight [] = Unit {0}
AllLight (t ∷ ts) = (weightᵀ t ≤ type_limit) × AllLight ts

light_types : (ts : List Ty) → AllLight ts → (p : ℕ) → weightᵀ (types ts p) ≤ type_limit
light_types [] h p = omega arith
light_types (t ∷ ts) h zero = h.0
light_types (t ∷ ts) h (suc p) = light_types ts h.1 p

-- The bytes of a table.
abbrev bytes_of : Table → List ℕ
bytes_of tb = to_bytes (words_of tb)

module _ (tb : Table) (e : reading (bytes_of tb) ≡ done tb) where
  -- accepted with these types
  accepted : (ts : List Ty) → AllDeclared (length tb.sizes) ts → AllLight ts → Obeyed tb (length tb.nodes) (types ts) →
      Alone tb ts → Verdict (bytes_of tb) (sheet_length tb) (done (sheet_of tb (types ts)))
  accepted ts d l o u = accepts e refl (only tb ts d o u) (λ p h. light_types ts l p)

  -- 11 at k, where the nodes below have these types
  clashes : (k : ℕ) (ts : List Ty) → k < length tb.nodes → AllDeclared (length tb.sizes) ts → Obeyed tb k (types ts) →
      Untyped tb (suc k) → Verdict (bytes_of tb) (sheet_length tb) (refused 11 k)
  clashes k ts l d o n = clash e refl l (typing tb k ts d o) (λ κ t. n κ (obeyed_by tb (suc k) κ t))

  -- 12 at p, between two lists of types
  differs : (p : ℕ) (ts us : List Ty) → Place tb p → AllDeclared (length tb.sizes) ts → AllDeclared (length tb.sizes) us →
      Obeyed tb (length tb.nodes) (types ts) → Obeyed tb (length tb.nodes) (types us) → (types ts p ≡ types us p → ⊥) →
      ((q : ℕ) → q < p → Place tb q → AgreeAt tb q) → Verdict (bytes_of tb) (sheet_length tb) (refused 12 p)
  differs p ts us h d d' o o' n a =
      several e refl h (typing tb (length tb.nodes) ts d o) (typing tb (length tb.nodes) us d' o') n a

-- x∈G0: x has the type G0.
p1_alone : Alone p1 (G 0 ∷ G 0 ∷ POW (G 0) ∷ [])
unfolding kind_of
p1_alone κ h = ((cc) & tt) & (cc) & (cc) & tt & tt

-- x={x}: the type of x would be its own power.
p3_untyped : Untyped p3 4
unfolding kind_of
p3_untyped κ h = no_cycle (κ 0) (cc)

-- 1=TRUE: INTEGER would be BOOL.
p4_untyped : Untyped p4 3
unfolding kind_of
p4_untyped κ h = absurd01 (cc)

-- card(POW(1..n))=32
power_alone : (n : ℕ) → Alone (card_power n) (INTEGER ∷ INTEGER ∷ POW INTEGER ∷ POW (POW INTEGER) ∷ [])
unfolding kind_of
power_alone n κ h = tt & (cc) & (cc) & (cc) & (cc) & (cc) & (cc) & tt & tt

abbrev Z² : Ty
Z² = INTEGER ⊗ INTEGER

-- ({(1,3)}∪{(1,2)})(1)=2
p12_alone : Alone p12 (INTEGER ∷ INTEGER ∷ Z² ∷ POW Z² ∷ INTEGER ∷ INTEGER ∷ Z² ∷ POW Z² ∷ POW Z² ∷ [])
unfolding kind_of
p12_alone κ h = tt & (cc) & (cc) & (cc) & (cc) & (cc) & (cc) & (cc) & (cc) & (cc) & (cc) & (cc) & (cc) & tt & tt

-- Below, (t, u, x, es, z) is a node's rule at t and u, with what it says of the identifier, the operands and the node itself;
-- where a rule has no t or no u, BOOL stands for it.

p1_checks : Verdict (bytes_of p1) 256 (done (sheet ((16 ∷ []) ∷ (16 ∷ []) ∷ (3 ∷ 16 ∷ []) ∷ [] ∷ [])))
unfolding reading sheet_of
p1_checks = accepted p1 refl (G 0 ∷ G 0 ∷ POW (G 0) ∷ []) (omega arith) (omega arith)
    ((G 0, BOOL, refl, tt, refl) & (BOOL, BOOL, tt, tt, refl) & (G 0, BOOL, tt, refl & refl & tt, tt) & tt)
    p1_alone

-- Both sides of ∅=∅ have POW(INTEGER), or both POW(BOOL).
p2_checks : Verdict (bytes_of p2) 192 (refused 12 0)
unfolding reading
p2_checks = differs p2 refl 0 (POW INTEGER ∷ POW INTEGER ∷ []) (POW BOOL ∷ POW BOOL ∷ [])
    (inr (0, omega arith, refl, refl)) (omega arith) (omega arith)
    ((INTEGER, BOOL, tt, tt, refl) & (INTEGER, BOOL, tt, tt, refl) & (POW INTEGER, BOOL, tt, refl & refl & tt, tt) & tt)
    ((BOOL, BOOL, tt, tt, refl) & (BOOL, BOOL, tt, tt, refl) & (POW BOOL, BOOL, tt, refl & refl & tt, tt) & tt)
    (λ e. absurd01 (cc)) (λ q l. absurd (omega arith))

p3_checks : Verdict (bytes_of p3) 320 (refused 11 3)
unfolding reading
p3_checks = clashes p3 refl 3 (INTEGER ∷ INTEGER ∷ INTEGER ∷ POW INTEGER ∷ []) (omega arith) (omega arith)
    ((INTEGER, BOOL, refl, tt, refl) & (INTEGER, BOOL, refl, tt, refl) & (INTEGER, BOOL, tt, refl & tt, refl) & tt)
    p3_untyped

p4_checks : Verdict (bytes_of p4) 192 (refused 11 2)
unfolding reading
p4_checks = clashes p4 refl 2 (INTEGER ∷ BOOL ∷ []) (omega arith) (omega arith)
    ((BOOL, BOOL, tt, tt, refl) & (BOOL, BOOL, tt, tt, refl) & tt)
    p4_untyped

p5_checks : Verdict (bytes_of p5) 448 (refused 11 5)
unfolding reading
p5_checks = clashes p5 refl 5 (INTEGER ∷ INTEGER ∷ BOOL ∷ INTEGER ∷ BOOL ∷ []) (omega arith) (omega arith)
    ((BOOL, BOOL, tt, tt, refl) & (BOOL, BOOL, tt, tt, refl) & (INTEGER, BOOL, tt, refl & refl & tt, tt) &
    (BOOL, BOOL, tt, tt, refl) & (BOOL, BOOL, tt, tt, refl) & tt)
    (λ κ h. absurd01 (cc))

-- P6 and P7
power_checks : (n : ℕ) → reading (bytes_of (card_power n)) ≡ done (card_power n) →
    Verdict (bytes_of (card_power n)) 448 (done (sheet (z ∷ z ∷ pz ∷ ppz ∷ z ∷ z ∷ [] ∷ [])))
unfolding sheet_of
power_checks n e = accepted (card_power n) e (INTEGER ∷ INTEGER ∷ POW INTEGER ∷ POW (POW INTEGER) ∷ []) (omega arith) (omega arith)
    ((BOOL, BOOL, tt, tt, refl) & (BOOL, BOOL, tt, tt, refl) & (BOOL, BOOL, tt, refl & refl & tt, refl) &
    (INTEGER, BOOL, tt, refl & tt, refl) & (POW INTEGER, BOOL, tt, refl & tt, refl) & (BOOL, BOOL, tt, tt, refl) &
    (INTEGER, BOOL, tt, refl & refl & tt, tt) & tt)
    (power_alone n)

p8_checks : Verdict (bytes_of p8) 256 (done (sheet (pz ∷ z ∷ z ∷ [] ∷ [])))
unfolding reading sheet_of
p8_checks = accepted p8 refl (POW INTEGER ∷ INTEGER ∷ INTEGER ∷ []) (omega arith) (omega arith)
    ((INTEGER, BOOL, tt, tt, refl) & (INTEGER, BOOL, tt, refl & tt, refl) & (BOOL, BOOL, tt, tt, refl) &
    (INTEGER, BOOL, tt, refl & refl & tt, tt) & tt)
    (λ κ h. tt & (cc) & (cc) & (cc) & tt & tt)

p9_checks : Verdict (bytes_of p9) 320 (done (sheet (z ∷ z ∷ z ∷ z ∷ [] ∷ [])))
unfolding reading sheet_of
p9_checks = accepted p9 refl [] (omega arith) (omega arith)
    ((BOOL, BOOL, tt, tt, refl) & (BOOL, BOOL, tt, tt, refl) & (BOOL, BOOL, tt, refl & refl & tt, refl) &
    (BOOL, BOOL, tt, tt, refl) & (INTEGER, BOOL, tt, refl & refl & tt, tt) & tt)
    (λ κ h. tt & (cc) & (cc) & (cc) & (cc) & tt & tt)

-- P10 and P11
p10_checks : Verdict (bytes_of p10) 512 (done (sheet (z ∷ z ∷ z ∷ pz ∷ z ∷ z ∷ [] ∷ [] ∷ [])))
unfolding reading sheet_of
p10_checks = accepted p10 refl (INTEGER ∷ INTEGER ∷ INTEGER ∷ POW INTEGER ∷ []) (omega arith) (omega arith)
    ((BOOL, BOOL, tt, tt, refl) & (BOOL, BOOL, tt, tt, refl) & (BOOL, BOOL, tt, refl & refl & tt, refl) &
    (INTEGER, BOOL, refl, tt, refl) & (INTEGER, BOOL, refl, tt, refl) & (INTEGER, BOOL, tt, refl & refl & tt, tt) &
    (INTEGER, BOOL, refl, refl & tt, tt) & tt)
    (λ κ h. ((cc) & tt) & (cc) & (cc) & (cc) & (cc) & (cc) & tt & tt & tt)

p12_checks : Verdict (bytes_of p12) 832 (done (sheet (z ∷ z ∷ zz ∷ pzz ∷ z ∷ z ∷ zz ∷ pzz ∷ pzz ∷ z ∷ z ∷ z ∷ [] ∷ [])))
unfolding reading sheet_of
p12_checks = accepted p12 refl
    (INTEGER ∷ INTEGER ∷ Z² ∷ POW Z² ∷ INTEGER ∷ INTEGER ∷ Z² ∷ POW Z² ∷ POW Z² ∷ []) (omega arith) (omega arith)
    ((BOOL, BOOL, tt, tt, refl) & (BOOL, BOOL, tt, tt, refl) & (INTEGER, INTEGER, tt, refl & refl & tt, refl) &
    (Z², BOOL, tt, refl & tt, refl) & (BOOL, BOOL, tt, tt, refl) & (BOOL, BOOL, tt, tt, refl) &
    (INTEGER, INTEGER, tt, refl & refl & tt, refl) & (Z², BOOL, tt, refl & tt, refl) &
    (Z², BOOL, tt, refl & refl & tt, refl) & (BOOL, BOOL, tt, tt, refl) &
    (INTEGER, INTEGER, tt, refl & refl & tt, refl) & (BOOL, BOOL, tt, tt, refl) &
    (INTEGER, BOOL, tt, refl & refl & tt, tt) & tt)
    p12_alone

-- Check's answer for a condition is what its row tells.
abbrev pub ChecksAsTold : Condition → Type 0
ChecksAsTold c = Verdict (to_bytes c.words) c.room c.checks

conditions_check : All ChecksAsTold conditions
unfolding reading
conditions_check =
    p1_checks & p2_checks & p3_checks & p4_checks & p5_checks & power_checks 5 refl & power_checks 6 refl & p8_checks & p9_checks &
    p10_checks & p10_checks & p12_checks & tt

-- Each of P1 to P12 is what the rules give, for Check and for Evaluate.
pub conditions_right : All (λ c. ChecksAsTold c × RunsAsTold c) conditions
conditions_right = all_both ChecksAsTold RunsAsTold conditions conditions_check conditions_run

-- The value that P7's node 3 would have weighs 257.
pub p7_weight : (v : Value) × (one_value power one_to_six ≡ gives v) × (weight v ≡ 257)
unfolding one_value
p7_weight = (_, refl, refl)

-- P1 with a sheet that is a byte short, and without its last byte.
pub p1_misfit : Verdict (bytes_of p1) 255 (refused 10 0)
unfolding reading
p1_misfit = misfit {tb = p1} refl (λ e. omega arith)

pub p1_unreadable : Verdict (take 87 (bytes_of p1)) 256 (refused 3 0)
unfolding reading
p1_unreadable = unreadable refl

-- Balanced pairings of 2ⁿ integers.
abbrev balanced : ℕ → Ty
balanced zero = INTEGER
balanced (suc n) = balanced n ⊗ balanced n

-- Of 32 integers: in one singleton the type weighs 64, which is not too much, in two 65, which is.
pub pairing_weights : (weightᵀ (POW (balanced 5)) ≡ 64) × (64 ≤ type_limit) × (weightᵀ (POW (POW (balanced 5))) ≡ 65) × (type_limit < 65)
pairing_weights = (refl, omega arith, refl, omega arith)
