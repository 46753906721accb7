pub mod BlockLaws
pub mod GroupLaws
pub mod WordLaws
