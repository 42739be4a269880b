use Rattle.clr_net.proofs.LowerClaims.{lower_claims}
use Rattle.compress.proofs.laws.lower_claims_are_a_network.Goals as goal

pub returns : goal.returns
returns c = lower_claims
