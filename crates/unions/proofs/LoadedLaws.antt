-- From the values that have been read to the answer: that of the first two values of free identifiers (`union_read`), and what each refusal before it is.
use Prim.Native.Nat.{ℕ, ◌+◌, ◌≤◌, ◌<◌}
use mathlib.Core.List.{List}
use mathlib.Core.Path.{◌≡◌, refl, subst}
use native.Mathlib.Omega.{arith}
use lib.ListN.{length, get_or}
use Rattle.rules.specs.Tables.{table_of, identifier_count}
use Rattle.rules.specs.Readable.{Readable}
use Rattle.rules.specs.Ends.{done, refused}
use Rattle.rules.specs.Reading.{reading}
use Rattle.rules.specs.Cells.{no_value, values_in, values_from}
use Rattle.rules.specs.Merges.{free_values, first_two, union_in}
use Rattle.laws.proofs.TableLaws.{binds_length}
use Rattle.laws.proofs.ReadingLaws.{reading_right}
use Rattle.laws.proofs.FormedLaws.{values_in_good, values_in_length}
use Rattle.reading.specs.Answers.{reading_of}
use Rattle.std.specs.Prelude.{Result, Err, Option, Some, None}
use Rattle.std.specs.Option.{ok_or}
use Rattle.reading.specs.declared.Refusal.{Refusal}
use Rattle.buffer.specs.Buffer.{cells_at_most}
use Rattle.buffer.specs.Loaded.{Bound}
use Rattle.operations.specs.Good.{GoodAt}
use Rattle.operations.specs.Outcomes.{TwoReady}
use Rattle.operations.proofs.GoodLaws.{sizes_small}
use Rattle.unions.specs.Answers.{MergeAnswers, Unites, Passed, LeastFree, NextFree, MergeReady, ArenaFits}
use Rattle.unions.specs.declared.Merged.{Merged}
use Rattle.unions.specs.declared.MergeError.{MergeError}
use Rattle.unions.specs.declared.MergeError.TheVariants.{Refused, Unfit}
use Rattle.unions.proofs.FreeLaws.{none_free, one_free, two_free_law}

-- What a search has found is free, and below 32; what has found none has passed all.
module _ {o : Option ℕ} where
  pub found : (ws : List ℕ) (x r : ℕ) → o ≡ Some r → NextFree ws x o → LeastFree ws x r
  found ws x r e h = subst (λ (z : Option ℕ). NextFree ws x z) e h

  pub passed : (ws : List ℕ) (x : ℕ) → o ≡ None → NextFree ws x o → Passed ws x (length ws)
  passed ws x e h = subst (λ (z : Option ℕ). NextFree ws x z) e h

  pub free_few : (bs : List ℕ) (x r : ℕ) → Readable bs → o ≡ Some r → NextFree (table_of bs).binds x o → r < 32
  free_few bs x r readable e h = omega (arith, (found (table_of bs).binds x r e h).named, binds_length bs, readable.header.identifiers)

  -- The error where it has found none.
  pub unfit_told : {e : MergeError} → o ≡ None → ◌≡◌ {A = Result ℕ MergeError} (Err e) (ok_or o Unfit) → e ≡ Unfit
  unfit_told {e} n v = let w : ◌≡◌ {A = Result ℕ MergeError} (Err e) (Err Unfit) = rw n at v in cc

-- A table that is not readable.
pub unread_told : (bs buffer out : List ℕ) {x : Refusal} → reading_of bs (Err x) ≡ reading bs → MergeAnswers bs buffer out out (Err (Refused x))
unfolding union_in
unread_told bs buffer out e = rw (← e) (record { answer = refl; buffer = refl })

module _ {bs : List ℕ} (readable : Readable bs) where
  -- 14 refuses.
  pub lacking_told : (buffer out : List ℕ) {x : ℕ} → values_from (table_of bs).sizes (table_of bs).binds 0 buffer ≡ refused 14 x →
      MergeAnswers bs buffer out out (Err (Refused (record { number = 14; place = x })))
  unfolding union_in values_in
  lacking_told buffer out e = rw ((reading_right bs).1 readable, e) (record { answer = refl; buffer = refl })

  module _ {buffer s env : List ℕ} {top : ℕ} (b : Bound (table_of bs).sizes (table_of bs).binds buffer s env 0 top) where
    read_all : values_in (table_of bs) buffer ≡ done b.values
    unfolding values_in
    read_all = b.reads

    union_read : union_in bs buffer ≡ done (first_two (free_values (table_of bs).binds b.values))
    unfolding union_in
    union_read = rw ((reading_right bs).1 readable, read_all)

    good_at : (x : ℕ) → x < 32 → GoodAt (table_of bs).sizes s top (get_or env x 0) (get_or b.values x no_value)
    good_at x l = let v = b.at x l in record { stands = v.stands; below = v.below; good = values_in_good (table_of bs) buffer b.values read_all x }

    even : length b.values ≡ length (table_of bs).binds
    even = values_in_length (table_of bs) buffer b.values read_all

    -- Fewer than two identifiers are free.
    pub none_told : {out : List ℕ} → Passed (table_of bs).binds 0 (length (table_of bs).binds) → MergeAnswers bs buffer out out (Err Unfit)
    none_told h = rw (union_read, none_free (table_of bs).binds b.values even h) (record { answer = refl; buffer = refl })

    module _ {x : ℕ} (h : LeastFree (table_of bs).binds 0 x) where
      pub one_told : {out : List ℕ} → Passed (table_of bs).binds (x + 1) (length (table_of bs).binds) → MergeAnswers bs buffer out out (Err Unfit)
      one_told k = rw (union_read, one_free (table_of bs).binds b.values even h k) (record { answer = refl; buffer = refl })

      -- The values of two stand at their places.
      module _ {y : ℕ} (k : LeastFree (table_of bs).binds (x + 1) y) where
        left : GoodAt (table_of bs).sizes s top (get_or env x 0) (get_or b.values x no_value)
        left = good_at x (omega (arith, h.named, binds_length bs, readable.header.identifiers))

        right : GoodAt (table_of bs).sizes s top (get_or env y 0) (get_or b.values y no_value)
        right = good_at y (omega (arith, k.named, binds_length bs, readable.header.identifiers))

        pub both_ready : top + 514 ≤ length s → TwoReady s (get_or env x 0) (get_or env y 0) top
        both_ready room = record {
          operands = record {
            sizes = (table_of bs).sizes;
            small = sizes_small bs readable;
            first = get_or b.values x no_value;
            second = get_or b.values y no_value;
            left = left;
            right = right;
          };
          room = room;
        }

        pub both_told : {out out' : List ℕ} {r : Result Merged MergeError} → Unites s (get_or env x 0) (get_or env y 0) top out out' r →
            MergeAnswers bs buffer out out' r
        both_told u =
            rw (union_read, two_free_law (table_of bs).binds b.values even h k)
            (u (table_of bs).sizes _ _ (sizes_small bs readable) left right)

-- An arena with room for the values, the cell of an identifier without one, and a merge.
pub arena_fits : {bs values s : List ℕ} → Readable bs → 1 + cells_at_most (identifier_count bs) (length values) + 514 ≤ length s → length s < 4294967296 →
    ArenaFits bs values s
arena_fits q l k = record { load = record { readable = q; room = omega arith; small = k }; room = l }

-- The values have been read into an arena that fits them.
pub merge_ready : {bs values s s' env : List ℕ} → ArenaFits bs values s → length s' ≡ length s → {top : ℕ} →
    Bound (table_of bs).sizes (table_of bs).binds values s' env 0 top → MergeReady bs env s' top
merge_ready {bs} {values} p kept b = record {
  readable = p.load.readable;
  buffer = values;
  bound = b;
  room = omega (arith, b.room, binds_length bs, p.room, kept);
}
