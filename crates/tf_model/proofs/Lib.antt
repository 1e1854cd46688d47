pub mod Escapes
pub mod FoldLaws
pub mod LatestLaws
pub mod OrderLaws
pub mod QueryLaws
pub mod RangeLaws
pub mod RowLaws
pub mod WindowLaws
mod Examples
