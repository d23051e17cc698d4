-- The laws of the check, and single outcome.
pub mod Steps
pub mod Walk
pub mod Undo
pub mod Laws
pub mod Single
