pub mod Buffers
pub mod Format
pub mod Shape
