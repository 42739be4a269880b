use Rattle.std.proofs.Common.{◌≡◌, [], map}
use Rattle.clr_net.specs.Kept.{net_of}
use Rattle.clr_net.proofs.Copies.{first_banks}
use Rattle.clr_net.proofs.copying.index_of.Given as goal

abbrev pub invariant-loop-account : goal.invariant-loop-account
invariant-loop-account l = map (λ n. n.items) l.index.keys
    ≡ map (λ b. b.name) (first_banks (net_of l.accounts []) l.account-index).banks
