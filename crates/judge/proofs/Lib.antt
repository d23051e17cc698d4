-- The laws of the command table, and single outcome.
pub mod Table
pub mod Single
