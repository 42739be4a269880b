pub mod Ranges
pub mod Tabled
pub mod Counting
pub mod Broken
pub mod Shocked
