-- The command table of 01, and what a reader may count on of it.
pub mod Shapes
pub mod Refusals
pub mod Records
pub mod Commands
pub mod Table
