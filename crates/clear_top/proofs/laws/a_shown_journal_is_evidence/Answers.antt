use Rattle.clear_top.proofs.Evidence.{shown_is_evidence}
use Rattle.clear_top.proofs.laws.a_shown_journal_is_evidence.Goals as goal

pub returns : goal.returns
returns c = shown_is_evidence
