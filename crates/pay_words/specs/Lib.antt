-- words and where they stand, and lists over banks and debts
pub mod Words
pub mod Tables
pub mod Positions
-- what contracts see of boards and seats, and what calls ask for and change
pub mod Holding
pub mod Sound
pub mod Seating
pub mod Paying
pub mod Ringing
pub mod Views
pub mod Belongs
pub mod Making
pub mod Ends
pub mod Sealed
-- the rule of a board, and what its steps tell
pub mod Founded
pub mod Traces
pub mod Bells
pub mod BoardRule
pub mod Steps
pub mod Memory
-- what follows from it at each moment
pub mod Standing
pub mod Events
-- worked cases
pub mod Cases
