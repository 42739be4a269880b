use Rattle.clr_net.specs.Samples.{chain}
use Rattle.law_tests.specs.Nets.{events}
use Rattle.law_tests.proofs.ProcessFacts.{legal}
use Rattle.law_tests.proofs.process.legal_events_are_traced.Goals as goal

pub returns : goal.returns
returns c = c.legal_run_is_traced.ensures chain events legal
