pub mod Table
pub mod Seen
pub mod Forms
pub mod Commands
pub mod Lines
pub mod Places
pub mod Formed
