pub mod Ids
pub mod Sealed
