-- The three demands, each a record whose fields are its sentences; what they leave; the frauds of 01; and its bench cases.
pub mod Outfit
pub mod History
pub mod Queue
pub mod AtOnce
pub mod AnyDesk
pub mod Held
pub mod Register
pub mod Numbers
pub mod Orders
pub mod Demand1
pub mod Demand2
pub mod Demand3
pub mod Ours
pub mod Played
pub mod One
pub mod Frauds
pub mod Cases
