pub mod DesksOf
