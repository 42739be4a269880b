pub mod Others
pub mod Hurts
pub mod Ruined
