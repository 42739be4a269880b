use Rattle.upper.specs.Bounds.{wave}
use Rattle.upper.proofs.Waves.{wave_is, wave_tells}
use Rattle.upper.proofs.laws.wave_tells_health.Goals as goal

pub returns : goal.returns
returns c net i network = wave_tells net network i (wave net i) (wave_is net i)
