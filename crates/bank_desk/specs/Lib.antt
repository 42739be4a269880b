pub mod Desks
pub mod Fields
pub mod Cases
