pub mod AcceptLaws
pub mod Determined
pub mod Exactly
pub mod LengthLaws
pub mod Nothing
pub mod ReadLaws
pub mod StoreLaws
