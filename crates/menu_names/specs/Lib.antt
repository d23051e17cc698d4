-- The names of the menu.
pub mod Names
