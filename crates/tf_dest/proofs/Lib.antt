pub mod Filling
pub mod Leaving
pub mod RowLaws
pub mod Duty
