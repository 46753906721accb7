pub mod Step
pub mod Transcript
pub mod Turn
