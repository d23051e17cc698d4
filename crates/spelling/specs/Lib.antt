-- Whether two texts are the same.
pub mod Same
