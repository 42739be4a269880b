pub mod Tasks
pub mod Fetches
pub mod Shocked
pub mod Made
