pub mod Blocks
pub mod Texts
pub mod Shocked
pub mod Sums
pub mod Cases
