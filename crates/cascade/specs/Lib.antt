pub mod Standings
pub mod MoreCash
pub mod Ruin
pub mod Cases
