pub mod PageLaws
pub mod Holding
