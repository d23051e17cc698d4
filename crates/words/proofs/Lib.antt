-- Single outcome of the word's function.
pub mod Single
