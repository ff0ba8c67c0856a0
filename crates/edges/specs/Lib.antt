-- The edges that document 01 marks with a star, closes of trading, openings and differences of clocks, as one table of cases.
pub mod Cases
