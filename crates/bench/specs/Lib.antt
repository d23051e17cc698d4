-- A rig and a desk together.
pub mod Bench
