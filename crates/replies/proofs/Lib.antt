pub mod Coincide
pub mod Flags
pub mod Numbered
pub mod Refusals
pub mod Tested
pub mod Tried
