-- The last line of a listing.
pub mod LastLine
