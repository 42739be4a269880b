pub mod Awards
pub mod Choice
pub mod Units
