use Rattle.clear_core.specs.Clearing.{pay, spend}
use Rattle.clear_core.proofs.Pay.{spend_mono}
use Rattle.upper.proofs.Waves.{wave_in_known}
use Rattle.upper.proofs.laws.wave_is_the_only_one.Goals as goal

pub returns : goal.returns
unfolding pay
returns c net = wave_in_known net (spend net) (spend_mono net)
