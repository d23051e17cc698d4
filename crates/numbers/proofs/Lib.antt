-- Single outcome of the numbers' function.
pub mod Single
