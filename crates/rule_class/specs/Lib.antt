pub mod ClassSet
pub mod Sharing
pub mod ByOrder
