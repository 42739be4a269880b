use Rattle.std.proofs.Common.{refl}
use Rattle.clr_net.specs.Samples.{chain}
use Rattle.law_tests.specs.Nets.{two, two_ordered}
use Rattle.law_tests.proofs.ProcessFacts.{history, low_stamps}
use Rattle.law_tests.proofs.process.journal_of_two_belongs.Goals as goal

pub returns : goal.returns
returns c = let both = c.ordered_history_stands.ensures chain two history in c.lawful_journal_belongs.ensures chain two_ordered both.0 both.1 refl low_stamps
