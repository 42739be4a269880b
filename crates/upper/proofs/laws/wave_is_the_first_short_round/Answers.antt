use Rattle.upper.proofs.Waves.{wave_is}
use Rattle.upper.proofs.laws.wave_is_the_first_short_round.Goals as goal

pub returns : goal.returns
returns c = wave_is
