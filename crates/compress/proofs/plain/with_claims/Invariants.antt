use Rattle.std.proofs.Common.{◌≡◌}
use Rattle.clr_net.proofs.Copies.{first_debts}
use Rattle.clr_net.specs.Claims.{with_claims}
use Rattle.compress.proofs.plain.with_claims.Given as goal

abbrev pub invariant-loop-number : goal.invariant-loop-number
invariant-loop-number l = record {
  so_far : l.made
      ≡ first_debts (with_claims l.net l.claims) l.number;
}
