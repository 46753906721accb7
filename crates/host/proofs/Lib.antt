pub mod Determined
pub mod WordLaws
