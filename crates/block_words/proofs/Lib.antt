-- Single outcome of the block's function.
pub mod Single
