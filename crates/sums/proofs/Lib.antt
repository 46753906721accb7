pub mod NanLaws
pub mod PairLaws
pub mod RowLaws
pub mod SumLaws
