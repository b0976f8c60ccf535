pub mod Numbers
pub mod SurveyNumbers
pub mod Sectors
pub mod OtherKeys
pub mod ZeroHash
