-- What the code of the evaluators asks to be safe: nodes that may be read, entries of the environment, room, a truth's number.
use Rattle.visits.proofs.Terms.{ℕ, ◌+◌, ◌*◌, ◌≤◌, ◌<◌, Bool, true, false, bool_byte, List, ◌≡◌, refl, arith, lit<, length, scaled_Fits}
use Rattle.visits.proofs.Terms.{node_count, Readable, Same, Builds, NodeReady, EachReady, nodes_at}
use mir.Syntax.{w64}
use mir.Val.{Fits}
use Rattle.table.specs.Layout.{NodeIn}

-- The node of an identifier, or of a binder, has it in an environment of 32 entries.
module _ {x y : ℕ} (e : x ≡ y) (l : y < 32) where
  pub entry_below : x < 32
  entry_below = omega (arith, e, l)

  pub entry_scaled : Fits w64 (x * 4)
  entry_scaled = scaled_Fits x 32 4 entry_below (lit< tt)

pub node_in : {bs : List ℕ} {n : ℕ} → Readable bs → n < node_count bs → NodeIn bs (nodes_at bs) n
node_in r l = record { laid = record { header = r.header; base = refl }; below = l }

module _ {bs env s : List ℕ} {top n : ℕ} (r : NodeReady bs env s top n) where
  pub ready_node : NodeIn bs (nodes_at bs) n
  ready_node = node_in r.readable r.node

  -- Room for a leaf that is built, or a cell.
  pub cell_room : {s' : List ℕ} → Builds bs → Same top s s' → top + 33 ≤ length s'
  cell_room b e = omega (arith, r.room b, e.kept)

pub binder_node : {bs env s : List ℕ} {top n from count spare : ℕ} → EachReady bs env s top n from count spare → NodeIn bs (nodes_at bs) n
binder_node r = node_in r.ready.readable r.binder

-- A truth as a number.
pub byte_small : (b : Bool) → bool_byte b ≤ 1
byte_small true = omega arith
byte_small false = omega arith
