use Rattle.clr_net.proofs.Award.{award_within}
use Rattle.clr_net.proofs.laws.award_is_within_claims.Goals as goal

pub returns : goal.returns
returns c = award_within
