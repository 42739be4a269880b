pub mod Places
pub mod Begun
pub mod Waits
