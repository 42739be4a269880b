use Rattle.std.proofs.Common.{lit<}
use Rattle.clr_net.specs.Samples.{chain}
use Rattle.law_tests.specs.Nets.{two}
use Rattle.law_tests.proofs.ProcessFacts.{history}
use Rattle.law_tests.proofs.process.history_stands_and_replays.Goals as goal

pub returns-clause-stands : goal.returns-clause-stands
returns-clause-stands c = (c.ordered_history_stands.ensures chain two history).0

pub returns-clause-pays : goal.returns-clause-pays
returns-clause-pays c = c.ordered_history_replays.ensures chain two history 1 (lit< tt)
