-- Document 02, N1, sentence by sentence: a readable table without nodes, which is a gate with no clauses yet.
use Prim.Native.Nat.{ℕ, zero, suc, ◌*◌, ◌<◌}
use mathlib.Core.Bool.{true}
use mathlib.Core.List.{List, []}
use mathlib.Core.Logic.{inl, inr}
use mathlib.Core.Path.{◌≡◌, refl, ◌∙◌, subst}
use native.Mathlib.Omega.{arith}
use lib.ListN.{get_or, length}
use Rattle.rules.specs.Types.{Ty, Declared, INTEGER, BOOL}
use Rattle.rules.specs.Values.{Value}
use Rattle.rules.specs.Tables.{Table}
use Rattle.rules.specs.Ends.{done, refused}
use Rattle.rules.specs.Cells.{values_in}
use Rattle.rules.specs.Reading.{reading, binders, occurs_in_root}
use Rattle.rules.specs.Readable.{BindingRight}
use Rattle.rules.specs.Runs.{return}
use Rattle.rules.specs.Evaluation.{run, evaluation}
use Rattle.rules.specs.Verdict.{Place, Whole, Only, sheet_of, rows_from, Verdict, several, accepts}
use Rattle.rules.specs.Safety.{Free}
use Rattle.rules.proofs.Basics.{absurd01, any_default}
use Rattle.laws.proofs.TableLaws.{no_condition}
use Rattle.laws.proofs.ReadingLaws.{reading_records_law}
use Rattle.laws.proofs.BindingLaws.{binders_one}
use Rattle.laws.proofs.Soundness.{evaluation_run}

module _ (bs : List ℕ) (tb : Table) (e : reading bs ≡ done tb) (none : length tb.nodes ≡ 0) where
  -- Evaluation gives true with 0 steps under every budget, once 14 passes the values; nothing is formed.
  pub no_clauses_true : (buffer : List ℕ) (vs : List Value) (budget : ℕ) → values_in tb buffer ≡ done vs → evaluation bs buffer budget ≡ return true 0
  unfolding run
  no_clauses_true buffer vs budget f = evaluation_run bs buffer budget tb vs e f ∙ rw (no_condition tb none)

  -- A bound identifier would have broken 9: all are free.
  pub no_clauses_free : (x : ℕ) → x < length tb.binds → Free tb x
  no_clauses_free x l = (l, any_default tb.binds x 1 0 l ∙ go (get_or tb.binds x 0) ((reading_records_law bs tb e).bindings x l))
    where
      go : (w : ℕ) → BindingRight w (binders tb.nodes x) (occurs_in_root tb.nodes x) → w ≡ 0
      go zero b = refl
      go (suc w) b = absurd (omega (arith, none, ((binders_one tb.nodes x).0 b.0).1.0))

  -- Any types of the identifiers are a typing.
  alike : (t : Ty) → Declared (length tb.sizes) t → Whole tb (λ _. t)
  alike t d = record { declared = λ p w. d; obeyed = λ n l. absurd (omega arith) }

  -- So Check accepts where there is no identifier, with the empty sheet,
  pub no_clauses_accepted : length tb.binds ≡ 0 → Verdict bs 0 (done [])
  unfolding sheet_of rows_from
  no_clauses_accepted few =
      let only : Only tb (λ _. INTEGER) = record { typing = alike INTEGER tt; alone = λ κ w p l. absurd (nowhere p l) } in
      subst (λ rows. Verdict bs 0 (done rows)) (rw (few, none)) (accepts e (omega arith) only (λ p l. absurd (nowhere p l)))
    where
      nowhere : (p : ℕ) → Place tb p → ⊥
      nowhere p (inl l) = omega arith
      nowhere p (inr (n, l, c, q)) = omega arith

  -- and finds the first identifier ambiguous where there is one.
  pub no_clauses_ambiguous : 0 < length tb.binds → Verdict bs (64 * length tb.binds) (refused 12 0)
  no_clauses_ambiguous some =
      several e (omega arith) (inl some) (alike INTEGER tt) (alike BOOL tt) (λ q. absurd01 (cc)) (λ q l. absurd (omega arith))
