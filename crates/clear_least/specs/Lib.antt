pub mod Paying
pub mod Sweeps
