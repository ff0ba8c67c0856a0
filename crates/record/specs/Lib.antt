-- What the contracts of this crate cite.
pub mod Layout
pub mod Terms
pub mod Blocks
pub mod History
pub mod Slots
pub mod Questions
pub mod Answers
pub mod BeforeHarvest
pub mod LaidOut
pub mod Words
pub mod Encode
pub mod WellFormed
pub mod Positioned
pub mod Converted
pub mod Listed
