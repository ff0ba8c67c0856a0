-- Laws of walks through a table and of tables that are closed, one file for each loop's subject.
pub mod FoundLaws
pub mod WalkLaws
pub mod SettledLaws
pub mod ClosureLaws
pub mod ClosingLaws
pub mod GatherLaws
pub mod ClosedLaws
pub mod FilledLaws
