pub mod Sequence
pub mod Survivors
pub mod Undo
