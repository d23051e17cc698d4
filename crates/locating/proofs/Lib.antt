-- Single outcome of the functions that read a block's parts.
pub mod Single
