-- The table of edges holds.
pub mod EdgesHold
