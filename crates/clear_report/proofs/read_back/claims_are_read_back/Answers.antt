use Rattle.clear_report.proofs.ClaimsText.{claims_read_back}
use Rattle.clear_report.proofs.read_back.claims_are_read_back.Goals as goal

pub returns : goal.returns
returns c = claims_read_back
