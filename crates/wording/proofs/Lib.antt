-- The laws of the wording, and single outcome.
pub mod Sent
pub mod Laws
pub mod Single
