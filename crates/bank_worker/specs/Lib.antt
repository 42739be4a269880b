-- what contracts see of workers and their offices
pub mod Views
pub mod Offices
pub mod Staff
-- the three parts of a visit
pub mod Rising
pub mod Looks
pub mod Raises
pub mod Rings
-- what they come to: of one bank, and of those that rest
pub mod OneVisit
pub mod Rest
pub mod Visits
-- rounds: over which banks, when one may begin, and what it does
pub mod BankSets
pub mod Called
pub mod Ready
pub mod Sweeps
pub mod Grows
-- what the acts of a seat tell of all that
pub mod Told
-- worked cases
pub mod Cases
