pub mod Lists
pub mod UnitByUnit
pub mod LeftOut
