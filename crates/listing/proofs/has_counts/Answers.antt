-- The second test may be made since a headed table is long enough for it.
use Rattle.listing.proofs.ListingLaws.{headed_long}
use Rattle.listing.proofs.has_counts.Goals as goal

pub is_limited-requires : goal.is_limited-requires
is_limited-requires c = headed_long _ _ c.is_headed.ensures c.if-is_headed.true
