pub mod Keeping
pub mod CostPay
pub mod CostLeast
pub mod CostGreatest
pub mod PayingOut
