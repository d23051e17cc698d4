-- Laws that the proofs of `desk` are written with, and what holds of every desk.
pub mod Readings
pub mod Unread
pub mod Laws
pub mod Single
