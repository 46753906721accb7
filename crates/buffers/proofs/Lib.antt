pub mod FitLaws
pub mod HeadLaws
pub mod LoopLaws
pub mod Nothing
pub mod PositionLaws
pub mod RunLaws
pub mod WriteLaws
