-- Document 01, "Table of a condition": words, records, and the tree that the nodes make.
use Rattle.std.specs.Prelude.{ℕ, zero, suc, ◌+◌, ◌*◌, ◌-◌, Bool, true, false, List, [], ◌∷◌, ◌++◌, get_or, length}
use Rattle.std.proofs.Math.Option.{Option, none as nothing, some}
use Rattle.rules.specs.Kinds.{Join, Test, equal, Quant, Leaf, empty_set, One, Two}
use Rattle.rules.specs.Kinds.{Kind, join, negation, test, quant, leaf, bool_of, one, two, comprehension, kind_of}
use Rattle.rules.specs.Kinds.{Field, fields_of, is_operand}

-- A word is 4 bytes, least first.
abbrev pub word_at : List ℕ → ℕ → ℕ
word_at bs i = get_or bs i 0 + 256 * get_or bs (1 + i) 0 + 65536 * get_or bs (2 + i) 0 + 16777216 * get_or bs (3 + i) 0

-- The n words from byte i on.
unfoldable pub words_from : List ℕ → ℕ → ℕ → List ℕ
words_from bs i zero = []
words_from bs i (suc n) = word_at bs i ∷ words_from bs (4 + i) n

-- A node record: kind, a, b, c.
pub record Node : Type 0 where
  pub kind : ℕ
  pub a : ℕ
  pub b : ℕ
  pub c : ℕ

unfoldable pub node_from : List ℕ → ℕ → Node
node_from bs i = record { kind = word_at bs i; a = word_at bs (4 + i); b = word_at bs (8 + i); c = word_at bs (12 + i) }

-- The n node records from byte i on.
unfoldable pub nodes_from : List ℕ → ℕ → ℕ → List Node
unfolding node_from
nodes_from bs i zero = []
nodes_from bs i (suc n) = node_from bs i ∷ nodes_from bs (16 + i) n

-- A table: the given sets' sizes, the identifiers' words (0 free, 1 bound), the nodes.
pub record Table : Type 0 where
  pub sizes : List ℕ
  pub binds : List ℕ
  pub nodes : List Node

-- G, I and N are the header's second to fourth word.
abbrev pub given_count : List ℕ → ℕ
given_count bs = word_at bs 4

abbrev pub identifier_count : List ℕ → ℕ
identifier_count bs = word_at bs 8

abbrev pub node_count : List ℕ → ℕ
node_count bs = word_at bs 12

-- The offsets of the sections, which follow the header without gaps, and the whole length.
abbrev pub givens_at : ℕ
givens_at = 32

abbrev pub identifiers_at : List ℕ → ℕ
identifiers_at bs = 32 + 4 * given_count bs

abbrev pub nodes_at : List ℕ → ℕ
nodes_at bs = 32 + 4 * given_count bs + 4 * identifier_count bs

abbrev pub whole_length : List ℕ → ℕ
whole_length bs = 32 + 4 * given_count bs + 4 * identifier_count bs + 16 * node_count bs

unfoldable pub table_of : List ℕ → Table
unfolding words_from nodes_from
table_of bs = record {
  sizes = words_from bs givens_at (given_count bs);
  binds = words_from bs (identifiers_at bs) (identifier_count bs);
  nodes = nodes_from bs (nodes_at bs) (node_count bs);
}

abbrev pub no_node : Node
no_node = record { kind = 0; a = 0; b = 0; c = 0 }

abbrev pub node_at : List Node → ℕ → Node
node_at ns n = get_or ns n no_node

abbrev pub kind_at : List Node → ℕ → Option Kind
kind_at ns n = kind_of (node_at ns n).kind

-- What the fields of a node hold; nothing where its kind is unknown.
abbrev pub fields_if : Option Kind → List Field
fields_if nothing = []
fields_if (some k) = fields_of k

abbrev pub fields_at : Node → List Field
fields_at d = fields_if (kind_of d.kind)

abbrev pub field_words : Node → List ℕ
field_words d = d.a ∷ d.b ∷ d.c ∷ []

abbrev pub kept_if : Bool → ℕ → List ℕ → List ℕ
kept_if true x xs = x ∷ xs
kept_if false x xs = xs

-- The words in the fields of one sort.
abbrev pub pick : (Field → Bool) → List Field → List ℕ → List ℕ
pick p [] xs = []
pick p (f ∷ fs) [] = []
pick p (f ∷ fs) (x ∷ xs) = kept_if (p f) x (pick p fs xs)

-- The operands of a node of a kind: the words in its fields for expressions.
abbrev pub operands : Kind → Node → List ℕ
operands k d = pick is_operand (fields_of k) (field_words d)

-- The words that one node, and all nodes, hold in the fields of a sort.
unfoldable pub held : (Field → Bool) → Node → List ℕ
unfolding kind_of
held p d = pick p (fields_at d) (field_words d)

unfoldable pub held_in : (Field → Bool) → List Node → List ℕ
unfolding held
held_in p [] = []
held_in p (d ∷ ds) = held p d ++ held_in p ds

-- A condition as a tree; each of its nodes has its number in the table.
mutual
  pub data Pred : Type 0 where
    joinᵖ : ℕ → Join → Pred → Pred → Pred
    notᵖ : ℕ → Pred → Pred
    testᵖ : ℕ → Test → Expr → Expr → Pred
    quantᵖ : ℕ → Quant → ℕ → Expr → Pred → Pred

  pub data Expr : Type 0 where
    leafᵉ : ℕ → Leaf → ℕ → ℕ → Expr
    boolᵉ : ℕ → Pred → Expr
    oneᵉ : ℕ → One → Expr → Expr
    twoᵉ : ℕ → Two → Expr → Expr → Expr
    comprehensionᵉ : ℕ → ℕ → Expr → Pred → Expr

-- What stands for a node that is not of the category asked for: no readable table has one.
abbrev pub no_expr : ℕ → Expr
no_expr n = leafᵉ n empty_set 0 0

abbrev pub no_pred : ℕ → Pred
no_pred n = testᵖ n equal (no_expr n) (no_expr n)

-- The tree of a node from its record and its children's trees.
abbrev pub pred_of : Option Kind → ℕ → Node → (ℕ → Pred) → (ℕ → Expr) → Pred
pred_of nothing n d p e = no_pred n
pred_of (some (join j)) n d p e = joinᵖ n j (p d.a) (p d.b)
pred_of (some negation) n d p e = notᵖ n (p d.a)
pred_of (some (test j)) n d p e = testᵖ n j (e d.a) (e d.b)
pred_of (some (quant j)) n d p e = quantᵖ n j d.a (e d.b) (p d.c)
pred_of (some (leaf j)) n d p e = no_pred n
pred_of (some bool_of) n d p e = no_pred n
pred_of (some (one j)) n d p e = no_pred n
pred_of (some (two j)) n d p e = no_pred n
pred_of (some comprehension) n d p e = no_pred n

abbrev pub expr_of : Option Kind → ℕ → Node → (ℕ → Pred) → (ℕ → Expr) → Expr
expr_of nothing n d p e = no_expr n
expr_of (some (join j)) n d p e = no_expr n
expr_of (some negation) n d p e = no_expr n
expr_of (some (test j)) n d p e = no_expr n
expr_of (some (quant j)) n d p e = no_expr n
expr_of (some (leaf j)) n d p e = leafᵉ n j d.a d.b
expr_of (some bool_of) n d p e = boolᵉ n (p d.a)
expr_of (some (one j)) n d p e = oneᵉ n j (e d.a)
expr_of (some (two j)) n d p e = twoᵉ n j (e d.a) (e d.b)
expr_of (some comprehension) n d p e = comprehensionᵉ n d.a (e d.b) (p d.c)

-- The tree at node n, for a depth above n: a child has a lower number than its parent.
unfoldable mutual
  unfolding kind_of

  pub pred_at : ℕ → List Node → ℕ → Pred
  pred_at zero ns n = no_pred n
  pred_at (suc f) ns n = pred_of (kind_at ns n) n (node_at ns n) (λ m. pred_at f ns m) (λ m. expr_at f ns m)

  pub expr_at : ℕ → List Node → ℕ → Expr
  expr_at zero ns n = no_expr n
  expr_at (suc f) ns n = expr_of (kind_at ns n) n (node_at ns n) (λ m. pred_at f ns m) (λ m. expr_at f ns m)

-- The last node, where there are nodes, is the root.
unfoldable pub last_node : List Node → ℕ
last_node ns = length ns - 1

-- What is said of the root, or z where there are no nodes (document 02, N1).
abbrev pub of_root : {A : Type 0} → List Node → A → (ℕ → A) → A
of_root [] z f = z
of_root (d ∷ ds) z f = f (last_node (d ∷ ds))

-- The condition of a table: the tree of the root; none where there are no nodes.
unfoldable pub condition_of : Table → Option Pred
unfolding pred_at last_node
condition_of tb = of_root tb.nodes nothing λ n. some (pred_at (length tb.nodes) tb.nodes n)
