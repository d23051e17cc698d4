-- A switch as a number, and single outcome of the function.
pub mod Bits
pub mod Single
