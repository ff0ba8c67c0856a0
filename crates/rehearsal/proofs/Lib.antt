-- Laws of a run and of its record, which functions' proofs cite. What users should know: FoundCausal.
pub mod BucketLaws
pub mod OpenedCells
pub mod RunLaws
pub mod ImageLaws
pub mod RehearsalLaws
pub mod ResultSizes
pub mod FoundCausal
