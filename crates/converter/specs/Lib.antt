-- What the contracts of this crate cite.
pub mod Conversions
pub mod Means
pub mod Blank
