-- Laws that functions' proofs cite.
pub mod FramedLaws
