pub mod Tops
pub mod Waves
pub mod Hits
pub mod Rows
pub mod Notes
pub mod Marks
pub mod Descents
pub mod Reached
