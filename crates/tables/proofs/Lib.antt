-- Laws that the proofs of functions, here and in the crates above, cite.
pub mod LentLaws
pub mod ArbitrationLaws
pub mod GroupLaws
pub mod OrderOfTime
pub mod PartLaws
pub mod TakenLaws
pub mod SweepLaws
pub mod RealTimeLaws
