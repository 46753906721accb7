pub mod Block
pub mod Fits
pub mod Order
