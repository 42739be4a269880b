use Rattle.std.proofs.Common.{◌≡◌, take}
use Rattle.stress.specs.Shocks.{after_shock}
use Rattle.stress.proofs.shock.shock_again.Given as goal

abbrev pub invariant-loop-loss : goal.invariant-loop-loss
invariant-loop-loss l = record {
  so_far : l.left ≡ after_shock l.scenario.cut (take l.loss-index l.scenario.losses) l.net;
}
