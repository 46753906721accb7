pub mod FormatLaws
pub mod ShapeLaws
