pub mod Greatest
pub mod Waves
pub mod Bounds
pub mod Falls
pub mod Descent
pub mod Cases
