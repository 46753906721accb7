pub mod Fit
pub mod Row
