pub mod Checks
pub mod Field
pub mod Words
pub mod Within
pub mod FaultText
pub mod Record
pub mod Cases
