-- What spins, power cuts and settings do.
pub mod Power
