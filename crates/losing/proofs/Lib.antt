-- Single outcome of a frame built and lost.
pub mod Single
