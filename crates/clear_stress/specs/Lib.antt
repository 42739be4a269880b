pub mod Told
pub mod Waiting
pub mod Cases
