-- The laws of words, and single outcome.
pub mod Spoken
pub mod Laws
pub mod Steps
pub mod Single
