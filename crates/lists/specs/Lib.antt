pub mod Bytes
pub mod Chunks
