pub mod Fetches
pub mod LineStart
pub mod Names
pub mod Passed
pub mod Pieces
pub mod Rises
pub mod Written
