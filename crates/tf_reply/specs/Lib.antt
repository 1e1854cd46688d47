pub mod Objects
pub mod Naming
pub mod Refusals
pub mod Statistics
pub mod Places
pub mod Answers
pub mod Sources
