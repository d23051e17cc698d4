-- Laws of the events and items.
pub mod Laws
pub mod Directions
pub mod Order
pub mod Parity
pub mod Single
