-- What the crates above rest on: a table that `read` or `read_height` passes is readable, and what they refuse `reading` refuses.
use Prim.Native.Nat.{ℕ}
use mathlib.Core.List.{List}
use mathlib.Core.Path.{◌≡◌, refl, sym, ap, ◌∙◌}
use Rattle.rules.specs.Ends.{End, done, refused, ◌>>=◌}
use Rattle.rules.specs.Tables.{Table, table_of}
use Rattle.rules.specs.Reading.{reading}
use Rattle.rules.specs.Readable.{Readable}
use Rattle.laws.proofs.ReadingLaws.{reading_right, reading_table, reading_readable}
use Rattle.rules.proofs.Basics.{absurd01}
use Rattle.reading.specs.declared.Refusal.{Refusal}
use Rattle.std.specs.Prelude.{Result, Ok, Err}
use Rattle.reading.specs.Answers.{reading_of, height_of, root_height, reading_height}

-- What `read` tells where it passes the table.
pub read_readable : (bs : List ℕ) (a : Result (Unit {0}) Refusal) → reading_of bs a ≡ reading bs → a ≡ Ok tt → Readable bs
read_readable bs a e q = (reading_right bs).0 (sym e ∙ ap (reading_of bs) q)

-- What `read_height` tells by its answer: the table is readable and its root has the height, or the refusal is that of `reading`.
module _ (bs : List ℕ) where
  pub measured_readable : {h : ℕ} → height_of (Ok h) ≡ reading_height bs → Readable bs × (h ≡ root_height (table_of bs))
  unfolding reading_height
  measured_readable {h} e = go (reading bs) refl e
    where
      go : (x : End Table) → reading bs ≡ x → height_of (Ok h) ≡ (x >>= λ t. done (root_height t)) → Readable bs × (h ≡ root_height (table_of bs))
      go (done t) q e = (reading_readable bs t q, (let d : h ≡ root_height t = cc in d) ∙ ap root_height (reading_table bs t q))
      go (refused k p) q e = absurd (absurd01 (cc))

  pub unmeasured_refused : {f : Refusal} → height_of (Err f) ≡ reading_height bs → reading bs ≡ refused f.number f.place
  unfolding reading_height
  unmeasured_refused {f} e = go (reading bs) refl e
    where
      go : (x : End Table) → reading bs ≡ x → height_of (Err f) ≡ (x >>= λ t. done (root_height t)) → reading bs ≡ refused f.number f.place
      go (done t) q e = absurd (absurd01 (cc))
      go (refused k p) q e = cc

  -- So `read` answers from that.
  pub height_passed : (a : Result ℕ Refusal) (h : ℕ) → height_of a ≡ reading_height bs → a ≡ Ok h → reading_of bs (Ok tt) ≡ reading bs
  height_passed a h e q = sym ((reading_right bs).1 (measured_readable (sym (ap height_of q) ∙ e)).0)

  pub height_refused : (a : Result ℕ Refusal) (f : Refusal) → height_of a ≡ reading_height bs → a ≡ Err f → reading_of bs (Err f) ≡ reading bs
  height_refused a f e q = sym (unmeasured_refused (sym (ap height_of q) ∙ e))
