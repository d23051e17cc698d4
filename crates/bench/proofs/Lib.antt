-- Single outcome of the bench's functions.
pub mod Single
