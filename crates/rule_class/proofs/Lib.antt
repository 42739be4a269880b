pub mod ClassTotal
pub mod Cleared
pub mod ClassSets
pub mod ClearedClass
pub mod Turn
pub mod InPlace
pub mod OrderFill
pub mod OrderClasses
