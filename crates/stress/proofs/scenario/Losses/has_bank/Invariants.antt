use Rattle.std.proofs.Common.{◌≡◌, drop}
use Rattle.std.specs.List.{list_any}
use Rattle.stress.specs.Shocks.{is_of_bank}
use Rattle.stress.proofs.scenario.Losses.has_bank.Given as goal

abbrev pub invariant-loop-loss : goal.invariant-loop-loss
invariant-loop-loss l = record {
  same : list_any (is_of_bank l.bank.0) l.self
      ≡ list_any (is_of_bank l.bank.0) (drop l.loss-index l.self);
}
