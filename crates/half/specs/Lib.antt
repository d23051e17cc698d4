-- A number spread over frames.
pub mod Shapes
pub mod Half
