pub mod Outcome
pub mod Reply
pub mod Tried
