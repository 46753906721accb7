pub mod CodeLaws
mod Halves
pub mod KindLaws
mod Largest
mod Patterns
mod Quotients
pub mod Reading
mod Rounding
pub mod RunLaws
pub mod ScaleLaws
mod Signs
pub mod ValueLaws
