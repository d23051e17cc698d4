-- The lister: what a stream of bytes comes to, and where its text stands.
pub mod Shapes
pub mod Listing
pub mod Front
