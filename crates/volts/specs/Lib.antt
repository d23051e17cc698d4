-- The sheet in volts (01, "Volts").
pub mod Volts
