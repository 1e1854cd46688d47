pub mod Unknown
pub mod Values
pub mod Queries
pub mod Reading
pub mod Types
