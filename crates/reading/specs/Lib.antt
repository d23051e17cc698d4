-- Where the code looks for an item.
pub mod Spot
