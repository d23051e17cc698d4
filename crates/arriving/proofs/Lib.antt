-- Single outcome.
pub mod Single
mod Every
