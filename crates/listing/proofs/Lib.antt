-- Laws of the listing.
pub mod ListingLaws
pub mod Tried
