pub mod LentLaws
pub mod PlaceLaws
pub mod SpanLaws
