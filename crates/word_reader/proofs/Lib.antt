-- Single outcome.
pub mod Single
