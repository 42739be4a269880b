pub mod Ruined
pub mod Impact
pub mod Cases
