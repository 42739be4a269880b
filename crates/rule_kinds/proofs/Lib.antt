pub mod FirstUnmet
