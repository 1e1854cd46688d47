pub mod Histories
pub mod Crashes
pub mod Standing
pub mod Answers
pub mod Words
pub mod Commands
