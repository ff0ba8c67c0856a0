-- What the contracts of this crate and of the judge's inner crates cite.
pub mod Given
