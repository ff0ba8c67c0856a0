-- Laws of the converting call. What users should know: ConvertsLaws, what each answer means.
pub mod ConvertsLaws
pub mod MovingLaws
