-- What the promises of this crate say: Refusals, Kinds, Tables, Layout, Parts. Cover and Order state laws; Steps is for private functions alone.
pub mod Shapes
pub mod Refusals
pub mod Kinds
pub mod Tables
pub mod Layout
pub mod Parts
pub mod Cover
pub mod Order
pub mod Steps
