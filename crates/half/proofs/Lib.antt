-- Single outcome of what is read of a spread number.
pub mod Single
