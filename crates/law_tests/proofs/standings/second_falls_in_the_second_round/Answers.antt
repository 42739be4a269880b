use Rattle.std.proofs.Common.{subst}
use Rattle.clr_net.specs.Samples.{chain}
use Rattle.upper.specs.Bounds.{IsWave}
use Rattle.law_tests.proofs.StandingFacts.{second_wave}
use Rattle.law_tests.proofs.standings.second_falls_in_the_second_round.Goals as goal

pub returns : goal.returns
returns c = subst (IsWave chain 1) second_wave (c.wave_is_the_first_short_round.ensures chain 1)
