pub mod AllExamples
pub mod General
pub mod WholeCase
