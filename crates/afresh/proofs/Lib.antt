-- Single outcome of the functions for a word with no block pending.
pub mod Single
