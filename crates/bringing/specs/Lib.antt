-- What a frame's bytes show of each item.
pub mod Bringing
