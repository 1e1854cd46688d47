pub mod Flips
pub mod Groupings
pub mod Keys
pub mod Lists
pub mod Names
pub mod Numbers
pub mod Rows
pub mod Runs
pub mod Shards
pub mod Values
mod Example
