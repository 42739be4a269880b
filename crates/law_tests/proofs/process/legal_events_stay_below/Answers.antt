use Rattle.clr_net.specs.Samples.{chain}
use Rattle.law_tests.specs.Nets.{events}
use Rattle.law_tests.proofs.ProcessFacts.{legal}
use Rattle.law_tests.proofs.process.legal_events_stay_below.Goals as goal

pub returns : goal.returns
returns c = (c.stays_below_least.ensures chain events legal).0
