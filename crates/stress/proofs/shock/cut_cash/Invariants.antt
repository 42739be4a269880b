use Rattle.std.proofs.Common.{◌≡◌, ℕ, ◌<◌}
use Rattle.clr_net.specs.Net.{cash_of}
use Rattle.cascade.specs.MoreCash.{IsOfOtherCash}
use Rattle.stress.specs.Shocks.{after_cut}
use Rattle.stress.proofs.shock.cut_cash.Given as goal

abbrev pub invariant-loop-number : goal.invariant-loop-number
invariant-loop-number l = record {
  alike : IsOfOtherCash l.net l.left;
  done : (i : ℕ) → i < l.number → cash_of l.left i ≡ after_cut l.cut (cash_of l.net i);
}
