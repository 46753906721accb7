mod BlockLaws
pub mod Determined
pub mod Exactly
mod HeadLaws
