-- Laws of the explaining call. What users should know: TellsLaws, what an answer tells beside the judge's.
pub mod TellsLaws
pub mod ExplanationLaws
pub mod ToldLaws
