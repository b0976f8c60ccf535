pub mod Orders
pub mod Tallies
pub mod Once
pub mod Refusals
pub mod ByFitting
pub mod SurveyFacts
