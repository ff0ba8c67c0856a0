-- What the contracts of this crate cite.
pub mod Explanations
pub mod Means
pub mod Steps
