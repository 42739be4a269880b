pub mod Cashes
pub mod Halves
pub mod Cases
