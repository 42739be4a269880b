pub mod Costs
pub mod CostStandings
pub mod Cases
