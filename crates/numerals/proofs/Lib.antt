-- The laws of numbers in text, and single outcome.
pub mod Letters
pub mod Writing
pub mod Reading
pub mod Laws
pub mod Single
