-- Numbers in text, out and in, and the laws of them.
pub mod Shapes
pub mod Letters
pub mod Decimal
pub mod Hex
pub mod Laws
