use Rattle.std.proofs.Common.{◌≡◌, ℕ, ◌<◌}
use Rattle.clr_net.specs.Net.{cash_of}
use Rattle.cascade.specs.MoreCash.{IsOfOtherCash}
use Rattle.descent.proofs.laying.lay_in.Given as goal

abbrev pub invariant-loop-number : goal.invariant-loop-number
invariant-loop-number g l = record {
  alike : IsOfOtherCash l.net l.laid;
  done : (i : ℕ) → i < l.number
      → cash_of l.laid i ≡ g.F.Floors.floors l.floors l.net l.share.low l.share.high i;
}
