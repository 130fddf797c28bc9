-- Document 01, "Conditions tried": what the listing program prints for P1, whole, by computation; and for a gate with no clauses yet.
use mathlib.Core.List.{[], ◌∷◌}
use mathlib.Core.Path.{◌≡◌, refl}
use Rattle.rules.proofs.Rows.{p1, no_clauses, words_of, to_bytes}
use Rattle.text.specs.Text.{newline}
use Rattle.listing.specs.Listing.{listing_of}

-- i 0 10, n 0 10, n 1 0310, n 2 p, accepted
pub p1_listing : listing_of (to_bytes (words_of p1)) ≡
    105 ∷ 32 ∷ 48 ∷ 32 ∷ 49 ∷ 48 ∷ newline ∷
    110 ∷ 32 ∷ 48 ∷ 32 ∷ 49 ∷ 48 ∷ newline ∷
    110 ∷ 32 ∷ 49 ∷ 32 ∷ 48 ∷ 51 ∷ 49 ∷ 48 ∷ newline ∷
    110 ∷ 32 ∷ 50 ∷ 32 ∷ 112 ∷ newline ∷
    97 ∷ 99 ∷ 99 ∷ 101 ∷ 112 ∷ 116 ∷ 101 ∷ 100 ∷ newline ∷ []
unfolding listing_of
p1_listing = refl

-- accepted (document 02, N1)
pub no_clauses_listing : listing_of (to_bytes (words_of (no_clauses []))) ≡ 97 ∷ 99 ∷ 99 ∷ 101 ∷ 112 ∷ 116 ∷ 101 ∷ 100 ∷ newline ∷ []
unfolding listing_of
no_clauses_listing = refl
