-- What the contracts of this crate cite.
pub mod Judgments
pub mod Means
pub mod Hosts
pub mod Clocks
pub mod Kept
pub mod Covers
pub mod Lists
pub mod Ready
