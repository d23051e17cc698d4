-- The rows of the menu, and single outcome.
pub mod Laws
pub mod Single
