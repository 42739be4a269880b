pub mod Reading
pub mod Left
pub mod Printing
pub mod Cases
