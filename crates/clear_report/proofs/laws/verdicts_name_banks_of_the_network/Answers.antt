use Rattle.clear_report.proofs.Verdicts.{verdict_names_bank}
use Rattle.clear_report.proofs.laws.verdicts_name_banks_of_the_network.Goals as goal

pub returns : goal.returns
returns c = verdict_names_bank
