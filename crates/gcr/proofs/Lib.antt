-- Laws that the proofs of the host calls cite.
pub mod PackedLaws
