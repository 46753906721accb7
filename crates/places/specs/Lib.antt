pub mod Place
pub mod Span
