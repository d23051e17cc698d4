-- What a fold over a stream comes to.
pub mod Folded
