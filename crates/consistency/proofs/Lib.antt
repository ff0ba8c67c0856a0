-- What follows. What users should know: MetIffHolds, BrokenIff, HappensBefore, ReturnsBefore, SameVerdict, OtherClocks, AsBefore, ModelsGive, ChainLaws,
-- ExplainedLaws, FoundOrderLaws, OrderJudged.
pub mod FirstPairLaws
pub mod LastWriteLaws
pub mod MetIffHolds
pub mod HappensBefore
pub mod ReturnsBefore
pub mod ClockLaws
pub mod SameVerdict
pub mod OtherClocks
pub mod AsBefore
pub mod BrokenIff
pub mod ReadLaws
pub mod PredicatesGive
pub mod ModelsGive
pub mod ChainLaws
pub mod Separated
pub mod ExplainedLaws
pub mod FoundOrderLaws
pub mod OrderJudged
