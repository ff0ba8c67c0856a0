-- Laws of one call, which the proofs of functions, here and in the rehearsal, cite.
pub mod CallLaws
pub mod KeptLaws
pub mod WordLaws
pub mod LentLaws
pub mod RefuseLaws
pub mod MadeLaws
pub mod CameLaws
pub mod FitLaws
pub mod CloseTurn
pub mod CalledLaws
pub mod ReturnLaws
pub mod LackedLaws
