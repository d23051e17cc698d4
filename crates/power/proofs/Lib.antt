-- Single outcome of the functions.
pub mod Single
