-- What the contracts of inner functions cite.
pub mod Noted
pub mod Answers
