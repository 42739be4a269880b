pub mod Cashes
pub mod GoingOn
pub mod Lowest
