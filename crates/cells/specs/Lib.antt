-- The cells of all items after a slot.
pub mod Cells
