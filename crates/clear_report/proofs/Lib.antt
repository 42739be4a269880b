pub mod ClaimsText
pub mod Lines
pub mod Begun
pub mod Standings
pub mod Verdicts
pub mod Pieces
