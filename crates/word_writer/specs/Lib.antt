-- The code of a supply.
pub mod Codes
