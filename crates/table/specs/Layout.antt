-- What a function may take for granted once earlier refusals have passed, and the parts of a node.
use Rattle.std.specs.Prelude.{ℕ, ◌<◌, List, ◌≡◌, get_or}
use Rattle.rules.specs.Kinds.{Field, unused}
use Rattle.rules.specs.Tables.{table_of, node_at, kind_at, fields_at, field_words, node_count, nodes_at}
use Rattle.rules.specs.Readable.{Header, NodeRight}
use Rattle.table.specs.declared.NodeField.{NodeField}
use Rattle.table.specs.declared.NodeFields.{NodeFields}
use Rattle.table.specs.Codes.{field_of, row_of}

-- The header is right and the nodes begin at the offset.
pub record Laid (bs : List ℕ) (at : ℕ) : Type 0 where
  pub header : Header bs
  pub base : at ≡ nodes_at bs

-- So too, and n is a node.
pub record NodeIn (bs : List ℕ) (at n : ℕ) : Type 0 where
  pub laid : Laid bs at
  pub below : n < node_count bs

-- The header and each node's fields are right.
pub record Fielded (bs : List ℕ) (at : ℕ) : Type 0 where
  pub laid : Laid bs at
  pub fields : (n : ℕ) → n < node_count bs → NodeRight (table_of bs) n

-- The row of node n's kind, what field i of the node holds, and the word in it.
abbrev pub field_codes_at : List ℕ → ℕ → ℕ
field_codes_at bs n = row_of (kind_at (table_of bs).nodes n)

abbrev pub holds_at : List ℕ → ℕ → ℕ → Field
holds_at bs n i = get_or (fields_at (node_at (table_of bs).nodes n)) i unused

abbrev pub field_at : List ℕ → ℕ → ℕ → ℕ
field_at bs n i = get_or (field_words (node_at (table_of bs).nodes n)) i 0

-- A field of node n, and the three of them.
pub record FieldOf (bs : List ℕ) (n i : ℕ) (f : NodeField) : Type 0 where
  pub holds : field_of f.holds ≡ holds_at bs n i
  pub word : f.word ≡ field_at bs n i

pub record FieldsOf (bs : List ℕ) (n : ℕ) (fs : NodeFields) : Type 0 where
  pub a : FieldOf bs n 0 fs.a
  pub b : FieldOf bs n 1 fs.b
  pub c : FieldOf bs n 2 fs.c

-- An identifier's word does not depend on what stands where there is none.
abbrev pub WordOf : List ℕ → ℕ → ℕ → Type 0
WordOf bs x w = (d : ℕ) → w ≡ get_or (table_of bs).binds x d
