-- What the contracts of this crate cite.
pub mod Lowest
pub mod Count
pub mod Row
pub mod Octets
pub mod Relation
pub mod Shortest
pub mod Placing
