-- Laws of the words of events, for the crates above.
pub mod GivenLaws
