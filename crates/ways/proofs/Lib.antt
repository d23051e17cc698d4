-- Single outcome of the way's function.
pub mod Single
