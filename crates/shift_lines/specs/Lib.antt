-- The check followed step by step, as text; where the steps lead; and the bytes of 01's case a worked out.
pub mod Lines
pub mod Laws
pub mod Vectors
