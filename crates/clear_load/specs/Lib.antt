pub mod Sources
pub mod Reading
pub mod Unread
pub mod Loading
pub mod Cases
