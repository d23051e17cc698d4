-- Single outcome of a frame built and handed on.
pub mod Single
