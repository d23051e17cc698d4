-- What is read of known bytes, and the single outcome of `or_say`.
pub mod Known
pub mod Single
