-- Document 01, "Conditions tried": what the listing program prints for a table, as bytes.
use Rattle.std.specs.Prelude.{ℕ, ◌+◌, ◌*◌, cond, ◌&&◌, List, ◌++◌}
use Rattle.rules.specs.Ends.{End, done, refused}
use Rattle.rules.specs.Tables.{identifier_count, node_count}
use Rattle.rules.specs.Reading.{headed, limited}
use Rattle.typing.specs.Model.{verdict}
use Rattle.text.specs.Text.{lines_of, accepted_line, refusal_line}

-- The text for Check's answer.
unfoldable pub answer_text : ℕ → ℕ → End (List ℕ) → List ℕ
unfolding lines_of refusal_line
answer_text i count (done sheet) = lines_of i count sheet ++ accepted_line
answer_text i count (refused r p) = refusal_line r p

-- I, and I + N, of a header that passes refusals 1 and 2, else 0: any sheet serves a table that those refuse.
unfoldable pub identifiers_of : List ℕ → ℕ
unfolding headed limited
identifiers_of bs = cond (headed bs && limited bs) (identifier_count bs) 0

unfoldable pub places_of : List ℕ → ℕ
unfolding headed limited
places_of bs = cond (headed bs && limited bs) (identifier_count bs + node_count bs) 0

-- The listing of a table: Check's answer with a sheet of 64 bytes a place.
unfoldable pub listing_of : List ℕ → List ℕ
unfolding places_of identifiers_of verdict answer_text
listing_of bs = answer_text (identifiers_of bs) (places_of bs) (verdict bs (64 * places_of bs))
