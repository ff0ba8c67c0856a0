-- What the contracts of this crate cite.
pub mod Tables
pub mod Order
pub mod Sweep
