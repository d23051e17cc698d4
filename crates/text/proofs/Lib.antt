-- The laws of texts on a page, and single outcome.
pub mod Puts
pub mod Single
