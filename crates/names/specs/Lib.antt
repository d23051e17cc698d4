-- The name in a row of a text of names.
pub mod Names
