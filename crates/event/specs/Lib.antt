-- What the promises say: Event of this crate, Ifft of crate `ifft`. Order states a law; Steps is for private functions alone.
pub mod Shapes
pub mod Event
pub mod Ifft
pub mod Order
pub mod Steps
