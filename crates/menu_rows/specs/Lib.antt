-- The rows of the menu.
pub mod Rows
