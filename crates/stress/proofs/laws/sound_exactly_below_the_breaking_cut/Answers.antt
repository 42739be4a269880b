use Rattle.stress.proofs.Milder.{sound_below}
use Rattle.stress.proofs.laws.sound_exactly_below_the_breaking_cut.Goals as goal

pub returns : goal.returns
returns c = sound_below
