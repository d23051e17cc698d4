-- Single outcome of the sample block.
pub mod Single
