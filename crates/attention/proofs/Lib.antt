pub mod OrderLaws
pub mod PartLaws
pub mod ScoringLaws
