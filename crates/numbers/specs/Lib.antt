pub mod Word
pub mod Scale
pub mod Code
pub mod Kind
