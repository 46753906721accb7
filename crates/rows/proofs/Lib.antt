pub mod FitLaws
pub mod RowLaws
