pub mod Fields
pub mod FirstPlace
pub mod Passed
pub mod Within
pub mod Additions
