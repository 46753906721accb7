pub mod DigitLaws
pub mod LaidLaws
pub mod LengthLaws
pub mod PlaceLaws
pub mod PutLaws
pub mod TextLaws
