pub mod Moves
pub mod Following
pub mod Numbers
pub mod Script
pub mod Frames
pub mod Parts
pub mod Settling
