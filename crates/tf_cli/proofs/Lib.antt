pub mod Outcomes
pub mod Ends
pub mod Held
pub mod Left
