-- What holds of names in a text, and single outcome.
pub mod Texts
pub mod Single
mod Chunks
