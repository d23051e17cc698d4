-- What a frame shows, the 40 bytes that show it, and what is read out of 40 bytes.
pub mod Shapes
pub mod Items
pub mod Write
pub mod Read
pub mod Laws
