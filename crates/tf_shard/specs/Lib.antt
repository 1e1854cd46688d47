pub mod Created
pub mod Ids
pub mod Parts
pub mod Seen
