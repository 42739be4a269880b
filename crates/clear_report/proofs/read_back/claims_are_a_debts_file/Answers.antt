use Rattle.clear_report.proofs.ClaimsText.{claims_text_is}
use Rattle.clear_report.proofs.read_back.claims_are_a_debts_file.Goals as goal

pub returns : goal.returns
returns c = claims_text_is
