-- What is read of a list of standings past its end.
use Rattle.cascade.specs.declared.standing.Health.TheVariants as health
pub use Rattle.stress.proofs.Outcomes.{past_end}
use Rattle.costs.specs.declared.standing.CostStanding.{CostStanding}

-- where it costs
abbrev pub past_cost_end : CostStanding
past_cost_end = record {
  estate = 0;
  lost = 0;
  outside_paid = 0;
  paid = 0;
  equity = 0;
  health = health.Sound;
}
