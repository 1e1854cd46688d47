pub mod Comparing
pub mod Ids
pub mod Reading
