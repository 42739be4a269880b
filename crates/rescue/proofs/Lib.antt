pub mod MoreCash
pub mod LeastSum
pub mod Bound
pub mod Searching
pub mod OneUnit
pub mod SavedBesides
