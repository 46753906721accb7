pub mod Calls
pub mod Fits
pub mod Heads
pub mod Side
pub mod Write
