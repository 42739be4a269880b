use Rattle.std.proofs.Common.{lit≤}
use Rattle.clr_net.specs.Amounts.{IsAtMost}
use Rattle.clr_net.specs.Samples.{chain}
use Rattle.costs.specs.Cases.{chain_halved, chain_whole}
use Rattle.costs.specs.Costs.{cost_least}
use Rattle.law_tests.proofs.standings.halved_pays_no_more.Goals as goal

pub returns : goal.returns
returns c =
    let h : IsAtMost (cost_least chain 500) (cost_least chain 1000) =
    c.more_lost_pays_no_more.ensures chain 500 1000 (lit≤ tt) (lit≤ tt) in
    rw (chain_halved, chain_whole) at h
