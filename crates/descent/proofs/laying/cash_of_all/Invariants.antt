use Rattle.std.proofs.Common.{◌≡◌, ◌<◌, ℕ, get_or, length}
use Rattle.clr_net.specs.Net.{cash_of}
use Rattle.descent.proofs.laying.cash_of_all.Given as goal

abbrev pub invariant-loop-number : goal.invariant-loop-number
invariant-loop-number l = record {
  as_many : length l.cash.items ≡ l.number;
  each : (i : ℕ) → i < l.number → get_or l.cash.items i 0 ≡ cash_of l.net i;
}
