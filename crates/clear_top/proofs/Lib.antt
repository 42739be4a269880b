pub mod Ending
pub mod Runs
pub mod Writing
pub mod Evidence
pub mod Printed
pub mod Records
pub mod Outcomes
pub mod Generating
