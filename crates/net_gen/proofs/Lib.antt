pub mod Names
pub mod Words
pub mod Tries
pub mod Lawful
