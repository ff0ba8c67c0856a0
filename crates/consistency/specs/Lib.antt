-- What a verdict means.
pub mod FirstPair
pub mod Relations
pub mod ReturnsBefore
pub mod Reads
pub mod Predicates
pub mod Holds
pub mod Breaks
pub mod Models
pub mod Explained
pub mod Lattice
pub mod Separating
pub mod FoundOrder
