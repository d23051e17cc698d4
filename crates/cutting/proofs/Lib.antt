-- The laws of lines, and single outcome.
pub mod Going
pub mod Laws
pub mod Ahead
pub mod Single
