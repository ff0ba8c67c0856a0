-- Laws that functions' proofs cite.
pub mod EventLaws
pub mod InclusionLaws
pub mod DifferenceLaws
pub mod LatestLaws
