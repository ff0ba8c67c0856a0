-- What the contracts of this crate cite.
pub mod Mirror
pub mod Lent
pub mod Done
