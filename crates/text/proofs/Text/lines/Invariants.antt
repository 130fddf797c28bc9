-- The lines from place p on remain to be written; a turn takes the line of p off their front.
use Prim.Native.Nat.{◌-◌}
use mathlib.Core.Path.{◌≡◌}
use Rattle.text.specs.Text.{lines_of}
use Rattle.text.proofs.TextLaws.{Remains, lines_from}
use Rattle.text.proofs.Text.lines.Given as goal

abbrev pub invariant-loop-p : goal.invariant-loop-p
invariant-loop-p l = record {
  same_buffer : l.self.out.ghost_name ≡ l.initial.self.out.ghost_name;
  rest : Remains l.initial.self.out.now l.initial.self.at (lines_of l.identifiers l.count l.sheet) l.self.at
      (lines_from l.identifiers l.sheet l.p (l.count - l.p)) l.self.out.now;
}
