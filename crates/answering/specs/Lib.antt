-- The answers to typed lines.
pub mod Answers
pub mod Vectors
