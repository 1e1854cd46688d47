pub mod Asking
pub mod Documents
pub mod Bulk
pub mod Ready
pub mod Replying
pub mod Rows
pub mod Moments
