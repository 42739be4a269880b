pub mod Shape
pub mod Views
pub mod Shocks
pub mod Milder
pub mod Breaking
pub mod Outcomes
pub mod Reading
pub mod Cases
