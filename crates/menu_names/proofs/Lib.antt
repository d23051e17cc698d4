-- The names of the menu, and single outcome.
pub mod Called
pub mod Rows
pub mod Single
