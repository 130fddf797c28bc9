-- The last line of a batch that ends early. What is printed of a failed read or write is left open.
use Rattle.std.specs.Prelude.{ℕ, List, [], ◌++◌, codes, Option, Some, None}
use Rattle.batch.specs.declared.Stop.{Stop}
use Rattle.batch.specs.declared.Stop.TheVariants.{Cut, Long, Unknown, Failed}

abbrev pub stop_text : Stop → Option (List ℕ)
stop_text Cut = Some (codes "cut")
stop_text Long = Some (codes "long")
stop_text Unknown = Some (codes "unknown")
stop_text (Failed e) = None

-- The same as a line.
abbrev pub stop_line : Stop → List ℕ
stop_line s = line_of (stop_text s)
  where
    line_of : Option (List ℕ) → List ℕ
    line_of (Some text) = text ++ codes "\n"
    line_of None = []
