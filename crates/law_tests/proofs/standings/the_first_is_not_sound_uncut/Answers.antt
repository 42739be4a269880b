use Rattle.std.proofs.Common.{arith, lit≤}
use Rattle.clr_net.specs.Samples.{chain}
use Rattle.stress.specs.Cases.{broken_uncut}
use Rattle.law_tests.proofs.standings.the_first_is_not_sound_uncut.Goals as goal

pub returns : goal.returns
returns c sound =
    let below = (c.sound_exactly_below_the_breaking_cut.ensures chain 0 0 c.chain_is_network.ensures (lit≤ tt)).0 sound in
    absurd (omega (arith, below, broken_uncut))
