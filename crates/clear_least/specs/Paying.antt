-- Payments by what each bank divides: their definitions stand in `clear_core`.
unfoldable pub use Rattle.clear_core.specs.Clearing.{pay_by}
pub use Rattle.clear_core.specs.Clearing.{RisesTo, NeverFalls, part_by, IsLeastBy, least_by, IsOnWayBy}
