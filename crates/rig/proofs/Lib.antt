-- The ways of a word, single outcome of the functions, and that a reply's numbers are all told.
pub mod Ways
pub mod Single
pub mod AllTold
