pub mod Rescue
pub mod Bound
pub mod Searching
pub mod Saved
pub mod OneUnit
pub mod Cases
