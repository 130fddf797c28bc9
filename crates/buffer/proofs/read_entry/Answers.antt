-- `read_entry`: a bound identifier takes nothing from the buffer; a free one takes the value that has been copied, if it is good: its sets
-- are in order, and it has a type.
use mathlib.Core.Path.{◌≡◌, sym, ◌∙◌}
use lib.ListN.{get_or}
use Rattle.rules.specs.Tables.{table_of}
use Rattle.arena.proofs.Standing.{same_refl}
use Rattle.buffer.proofs.Loading.{read_whole, read_bad, entry_bound, entry_free, entry_bad}
use Rattle.buffer.proofs.read_entry.Goals as goal

pub returns-then-bind-ne0 : goal.returns-then-bind-ne0
returns-then-bind-ne0 c = (same_refl _ _, entry_bound _ _ _ c.args.from.at _ _ _ (λ z. c.if-bind-ne0.true (c.bind.ensures 0 ∙ z)))

pub fine-requires : goal.fine-requires
fine-requires c =
    let value = c.in_ok-placed.ensures.1 in
    read_whole value

pub returns-then-not-fine : goal.returns-then-not-fine
returns-then-not-fine c =
    let is_free : get_or (table_of c.args.table.now).binds c.args.x 0 ≡ 0 = sym (c.bind.ensures 0) ∙ c.if-bind-ne0.false in
    let value = c.in_ok-placed.ensures.1 in
    let a = c.args in (
      c.copy_value.ensures.0,
      entry_bad _ _ _ a.values.now a.from.at is_free
          (read_bad value (λ v h f. sym c.if-not-fine.true ∙ c.fine.ensures v h f)),
    )

pub returns : goal.returns
returns c =
    let is_free : get_or (table_of c.args.table.now).binds c.args.x 0 ≡ 0 = sym (c.bind.ensures 0) ∙ c.if-bind-ne0.false in
    let value = c.in_ok-placed.ensures.1 in (
      c.copy_value.ensures.0,
      entry_free _ _ _ is_free value (λ v h f. sym c.if-not-fine.false ∙ c.fine.ensures v h f),
    )

pub returns-in_err-placed : goal.returns-in_err-placed
returns-in_err-placed c =
    let is_free : get_or (table_of c.args.table.now).binds c.args.x 0 ≡ 0 = sym (c.bind.ensures 0) ∙ c.if-bind-ne0.false in
    let a = c.args in (
      c.copy_value.ensures.0,
      rw c.from_residual.ensures (entry_bad _ _ _ a.values.now a.from.at is_free c.in_err-placed.ensures.1),
    )
