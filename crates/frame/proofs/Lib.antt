-- Laws that the proofs of `frame` are written with, and what holds of every frame.
pub mod Place
pub mod Rows
pub mod Came
pub mod Each
pub mod Back
pub mod Tells
pub mod Unread
pub mod Zeros
pub mod Laws
pub mod Single
pub mod Examples
