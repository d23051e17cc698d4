-- Single outcome of a cell's functions.
pub mod Single
