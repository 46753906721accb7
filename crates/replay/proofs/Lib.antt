pub mod Determined
pub mod LineLaws
pub mod NotOpen
pub mod PlayLaws
pub mod StepLaws
pub mod WalkLaws
