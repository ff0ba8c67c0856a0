-- The store and the third demand.
pub mod Store
pub mod Calls
pub mod Rules
pub mod Named
pub mod NamedTold
pub mod Outstanding
pub mod Close
pub mod Recorded
pub mod Rehearsal
pub mod Demand
pub mod NamedDemand
